pub mod Begun
pub mod Checked
pub mod Input
pub mod Lengths
pub mod Sequence
pub mod RowCount
pub mod Texts
pub mod Worked
