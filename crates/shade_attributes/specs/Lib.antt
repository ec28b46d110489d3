-- Rules: Attributes, Entries. Words of both: Words.
pub mod Attributes
pub mod Entries
pub mod Words
