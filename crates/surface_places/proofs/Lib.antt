pub mod Axes
pub mod Inner
pub mod Spots
pub mod Touching
