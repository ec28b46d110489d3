-- Rules: Control, Instances, Frames, Lane, Events, Systems, Settings.
pub mod Control
pub mod Instances
pub mod Frames
pub mod Lane
pub mod Events
pub mod Systems
pub mod Settings
