-- Rules: Flow, Counted, Exits, Laws. On the way to proofs: Lists, Bits, Work, Steps, Writes, Tables, Chosen, Definitions,
-- Routes, Exact.
pub mod Lists
pub mod Bits
pub mod Work
pub mod Flow
pub mod Counted
pub mod Steps
pub mod Writes
pub mod Tables
pub mod Chosen
pub mod Definitions
pub mod Routes
pub mod Exact
pub mod Exits
pub mod Laws
