-- Rules: Choosers, Chosen, Laws.
pub mod Choosers
pub mod Chosen
pub mod Laws
