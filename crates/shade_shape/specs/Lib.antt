-- Rules: Laws. On the way to proofs: Bounds, Depths, Facts, Rising, Tables, Values, Within.
pub mod Bounds
pub mod Depths
pub mod Facts
pub mod Laws
pub mod Rising
pub mod Tables
pub mod Values
pub mod Within
