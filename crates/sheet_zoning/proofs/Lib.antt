mod Turns
mod Pixels
mod Levels
pub mod Clamped
