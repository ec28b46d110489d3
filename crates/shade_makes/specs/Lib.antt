-- Rules: Zeros.
pub mod Zeros
