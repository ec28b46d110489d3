-- Rules: Paths, Digraph. On the way to proofs: Rows, Search.
pub mod Paths
pub mod Digraph
pub mod Rows
pub mod Search
