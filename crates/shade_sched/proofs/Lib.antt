pub mod PickLaws
pub mod ActLaws
