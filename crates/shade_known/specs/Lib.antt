-- Rules: Conversions, Keeps, Laws, Lookups, Operates. On the way to proofs: Answers.
pub mod Answers
pub mod Conversions
pub mod Keeps
pub mod Laws
pub mod Lookups
pub mod Operates
