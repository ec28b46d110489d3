-- Rules: Types, Bindings, Spaces, Variables, Structs. On the way to proofs: Depths.
pub mod Types
pub mod Bindings
pub mod Spaces
pub mod Variables
pub mod Structs
pub mod Depths
