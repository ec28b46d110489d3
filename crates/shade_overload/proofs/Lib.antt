pub mod BestLaws
pub mod Conversions
pub mod PatternLaws
pub mod MemoryLaws
pub mod VectorLaws
pub mod RowLaws
pub mod OneBest
pub mod ResultLaws
