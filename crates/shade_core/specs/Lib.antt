-- Rules: Code, Behaviour, Control, Places, Atomics, Rules, Standing, Types, Roots, Views, Fits, Scopes, Chains, Frames, Limits,
-- HasShape.
pub mod Code
pub mod Behaviour
pub mod Control
pub mod Places
pub mod Atomics
pub mod Rules
pub mod Standing
pub mod Types
pub mod Roots
pub mod Views
pub mod Fits
pub mod Scopes
pub mod Chains
pub mod Frames
pub mod Limits
pub mod HasShape
