pub mod Reading
pub mod Bounds
pub mod WeightSums
pub mod CornerWeights
pub mod AtCorners
