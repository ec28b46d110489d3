-- Rules: Answers, Once. On the way to proofs: Rests, Reading, Parts, Cuts.
pub mod Rests
pub mod Reading
pub mod Parts
pub mod Answers
pub mod Cuts
pub mod Once
