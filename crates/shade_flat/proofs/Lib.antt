pub mod Places
pub mod FrameLaws
pub mod RowLaws
