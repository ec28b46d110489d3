-- On the way to proofs: Follows, StatementParts, Trees.
pub mod Follows
pub mod StatementParts
pub mod Trees
