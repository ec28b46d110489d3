-- Rules: Tags, Violations, Used, Clean, Order, Laws.
pub mod Tags
pub mod Violations
pub mod Used
pub mod Clean
pub mod Order
pub mod Laws
