pub mod Declaring
pub mod Holding
pub mod Nested
