pub mod Edges
pub mod RowLaws
pub mod Ascending
pub mod SearchLaws
pub mod LeastLaws
