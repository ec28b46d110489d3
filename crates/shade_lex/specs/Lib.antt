-- Rules: Characters, Lexemes, Comments, Pieces, Tokens, Templates. On the way to proofs: Counts, Scan.
pub mod Characters
pub mod Lexemes
pub mod Counts
pub mod Comments
pub mod Pieces
pub mod Tokens
pub mod Templates
pub mod Scan
