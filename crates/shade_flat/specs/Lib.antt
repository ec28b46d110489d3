-- Rules: Flat, Rows.
pub mod Flat
pub mod Rows
