-- Rules: Sources, Labels, CheckReport, RunReport, Frames, Refusals.
pub mod Sources
pub mod Labels
pub mod CheckReport
pub mod RunReport
pub mod Frames
pub mod Refusals
