pub mod Slopes
pub mod InPlace
pub mod SlopeLaws
pub mod Examples
