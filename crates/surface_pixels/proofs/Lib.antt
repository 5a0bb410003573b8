pub mod Cubics
pub mod Refusal
