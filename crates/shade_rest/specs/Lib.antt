-- Rules: Marks.
pub mod Marks
