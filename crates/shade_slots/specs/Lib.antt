-- Rules: Slots.
pub mod Slots
