pub mod Cells
mod Sets
pub mod Levels
pub mod Examples
