-- Rules: FirstForm, Form, Laws, Lines, Lowering, Reserved, Tokens. On the way to proofs: Continuations, Reads, Steps.
pub mod Continuations
pub mod FirstForm
pub mod Form
pub mod Laws
pub mod Lines
pub mod Lowering
pub mod Reads
pub mod Reserved
pub mod Steps
pub mod Tokens
