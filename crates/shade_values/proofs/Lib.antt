pub mod Lists
pub mod DotLaws
pub mod LayoutLaws
pub mod NumberLaws
pub mod RangeLaws
pub mod ShapeLaws
pub mod SoundLaws
