-- Rules: Words, Filters, Events.
pub mod Words
pub mod Filters
pub mod Events
