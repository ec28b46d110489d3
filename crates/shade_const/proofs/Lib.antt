pub mod FactLaws
pub mod KindLaws
pub mod SideLaws
