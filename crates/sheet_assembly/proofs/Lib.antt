pub mod Stretches
pub mod InOrder
pub mod Replacing
pub mod Assembled
