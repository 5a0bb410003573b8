pub mod Bends
pub mod BendLaws
pub mod Examples
