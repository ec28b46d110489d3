-- Rules: Answers, Contexts, Rules, Simple. On the way to proofs: Fitting, Places, Sets, Values.
pub mod Answers
pub mod Contexts
pub mod Fitting
pub mod Places
pub mod Rules
pub mod Sets
pub mod Simple
pub mod Values
