-- Rules: Lane, Members, Seen.
pub mod Lane
pub mod Members
pub mod Seen
