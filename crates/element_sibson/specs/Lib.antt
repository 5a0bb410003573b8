pub mod Fraction
pub mod Cubic
pub mod Piece
pub mod Conditions
pub mod Element
pub mod Theorems
pub mod Sense
