pub mod Stored
pub mod Cells
pub mod Rows
