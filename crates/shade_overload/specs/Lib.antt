-- Rules: Best, Conversions, Laws, Rows. On the way to proofs: Patterns.
pub mod Best
pub mod Conversions
pub mod Laws
pub mod Patterns
pub mod Rows
