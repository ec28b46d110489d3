-- Rules: Laws. On the way to proofs: Bodies, Outline.
pub mod Bodies
pub mod Laws
pub mod Outline
