pub mod Refusal
pub mod Stretches
pub mod Turns
