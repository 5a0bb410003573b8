pub mod WithinFractions
mod Limits
mod RoundedFractions
pub mod Rounded
pub mod WeightSums
pub mod Form
pub mod Parts
pub mod InPiece
pub mod HeightBounds
pub mod SlopeBounds
pub mod Bounds
pub mod Changes
pub mod CornerWeights
pub mod AtCorners
