-- Rules: Nesting, Words, Answers, Once. On the way to proofs: Rests, Tables, Cuts, Parts, Wholes.
pub mod Rests
pub mod Nesting
pub mod Words
pub mod Tables
pub mod Answers
pub mod Cuts
pub mod Parts
pub mod Wholes
pub mod Once
