mod Limits
pub mod Horner
pub mod RowBounds
pub mod Denominators
pub mod Heights
