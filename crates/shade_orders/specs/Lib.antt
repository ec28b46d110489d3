-- Rules: Orders, Seen. On the way to proofs: Everywhere.
pub mod Orders
pub mod Everywhere
pub mod Seen
