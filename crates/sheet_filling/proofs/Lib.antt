pub mod Casts
pub mod Answers
