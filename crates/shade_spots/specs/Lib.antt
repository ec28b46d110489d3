-- Rules: Spots, Roots, Changes, Memory, Inside.
pub mod Spots
pub mod Roots
pub mod Changes
pub mod Memory
pub mod Inside
