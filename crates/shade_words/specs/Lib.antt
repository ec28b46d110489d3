-- Rules: Lays, Words, Types, PartShapes, Written, Spans. On the way to proofs: Ways, Forms.
pub mod Lays
pub mod Words
pub mod Ways
pub mod Types
pub mod Written
pub mod Spans
pub mod Forms
pub mod PartShapes
