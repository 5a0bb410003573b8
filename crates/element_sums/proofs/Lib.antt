pub mod Pieces
pub mod Cubics
pub mod Rounded
pub mod Sums
