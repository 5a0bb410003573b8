pub mod Needs
pub mod LowDegree
