pub mod Steps
pub mod Settled
pub mod Runs
pub mod Everywhere
pub mod Numbered
