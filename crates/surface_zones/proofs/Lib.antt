pub mod Chain
pub mod Answer
pub mod Along
pub mod Filled
pub mod Levels
mod Examples
pub mod Laws
