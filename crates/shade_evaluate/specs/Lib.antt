-- Rules: Evaluate, Fits, Misuse.
pub mod Evaluate
pub mod Fits
pub mod Misuse
