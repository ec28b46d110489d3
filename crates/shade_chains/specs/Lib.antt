-- Rules: Events, Keeps. On the way to proofs: Orders, Tops.
pub mod Events
pub mod Keeps
pub mod Orders
pub mod Tops
