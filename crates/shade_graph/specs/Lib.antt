-- Rules: Graph, Order, Limits. On the way to proofs: Gathered, Numbered.
pub mod Graph
pub mod Order
pub mod Limits
pub mod Gathered
pub mod Numbered
