pub mod Sides
pub mod Arrays
pub mod Listed
pub mod Names
pub mod Pieces
