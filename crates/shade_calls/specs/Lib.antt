-- Rules: Calls, Names, Templates.
pub mod Calls
pub mod Names
pub mod Templates
