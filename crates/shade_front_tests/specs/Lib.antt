-- On the way to proofs: Samples.
pub mod Samples
