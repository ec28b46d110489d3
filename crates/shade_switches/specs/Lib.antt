-- Rules: Calls, Signatures, Switches.
pub mod Calls
pub mod Signatures
pub mod Switches
