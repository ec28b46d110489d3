-- Rules: Buffers, Races.
pub mod Buffers
pub mod Races
