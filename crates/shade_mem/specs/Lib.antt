-- Rules: Fitting, Inputs.
pub mod Fitting
pub mod Inputs
