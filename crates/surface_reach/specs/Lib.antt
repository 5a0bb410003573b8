pub mod Nudged
pub mod NudgedLevels
