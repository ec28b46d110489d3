-- Rules: Order, Laws. On the way to proofs: Turns.
pub mod Order
pub mod Laws
pub mod Turns
