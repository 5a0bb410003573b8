pub mod Divisions
pub mod Products
pub mod InRow
mod PieceEnds
pub mod Laws
mod UpperHalf
pub mod Crossing
pub mod Parted
pub mod Cubics
pub mod Filled
