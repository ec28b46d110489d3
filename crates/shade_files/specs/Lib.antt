-- Rules: Changes, Reads, Writes.
pub mod Changes
pub mod Reads
pub mod Writes
