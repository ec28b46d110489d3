pub mod LaneLaws
pub mod SizeLaws
pub mod Able
pub mod OverLaws
pub mod CountLaws
