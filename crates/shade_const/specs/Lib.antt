-- Rules: Constant, Facts. On the way to proofs: Held.
pub mod Constant
pub mod Facts
pub mod Held
