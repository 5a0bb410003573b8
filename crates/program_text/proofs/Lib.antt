pub mod Digits
pub mod Fields
pub mod Lengths
pub mod Written
