mod Sequence
pub mod Stores
