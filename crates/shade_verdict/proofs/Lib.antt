pub mod OneList
pub mod NumberPaths
pub mod Sites
pub mod FoundLaws
pub mod TargetLaws
pub mod RuleLaws
pub mod SizeLaws
