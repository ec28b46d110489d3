-- Rules: Clean, Laws, Violations. On the way to proofs: Found.
pub mod Clean
pub mod Laws
pub mod Violations
pub mod Found
