pub mod Converting
pub mod Leading
pub mod OneAnswer
pub mod Operating
pub mod OneEnd
