pub mod PieceLaws
pub mod Tokens
pub mod Stands
pub mod PassLaws
pub mod DepthLaws
