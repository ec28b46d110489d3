-- Rules: Assignments, Operators, Parts, Values.
pub mod Assignments
pub mod Operators
pub mod Parts
pub mod Values
