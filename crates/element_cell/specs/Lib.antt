pub mod Cell
pub mod Corners
pub mod Coefficients
pub mod Pieces
