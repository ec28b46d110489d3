-- Rules: Updates. On the way to proofs: Readings, Rests, Maybes.
pub mod Readings
pub mod Rests
pub mod Maybes
pub mod Updates
