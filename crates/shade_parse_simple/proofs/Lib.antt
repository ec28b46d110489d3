pub mod Steps
pub mod Openings
pub mod Widens
pub mod BindingLaws
pub mod Endings
mod BindingTrees
pub mod Faulty
pub mod Turns
pub mod AttributeLaws
mod AttributeTrees
mod AssigningLaws
mod UpdateLaws
mod UpdateTrees
mod SimpleLaws
mod SimpleTrees
