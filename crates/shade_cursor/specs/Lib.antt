-- Rules: TokenPlaces, Operators, Passes, Depths. On the way to proofs: Shown, Walks, Makes.
pub mod Shown
pub mod TokenPlaces
pub mod Operators
pub mod Passes
pub mod Depths
pub mod Walks
pub mod Makes
