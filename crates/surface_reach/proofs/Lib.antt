mod Cells
mod Axis
mod Sides
mod Either
pub mod Laws
