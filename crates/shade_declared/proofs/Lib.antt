pub mod Members
pub mod Marked
pub mod Leading
pub mod Falling
pub mod Lists
pub mod Standing
pub mod OneOrder
