pub mod Turns
pub mod Becoming
pub mod Answering
pub mod OneAnswer
pub mod OneId
