-- Rules: Apply, Layouts, Numbers, Operations, Parts, Shape, Table, Takes, Typed. On the way to proofs: Kept, Sound.
pub mod Apply
pub mod Kept
pub mod Layouts
pub mod Numbers
pub mod Operations
pub mod Parts
pub mod Shape
pub mod Sound
pub mod Table
pub mod Takes
pub mod Typed
