pub mod Within
pub mod Floor
pub mod Round
pub mod RoundedSums
pub mod Ratio
pub mod Constants
pub mod Stepwise
