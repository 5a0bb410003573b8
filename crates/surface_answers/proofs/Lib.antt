pub mod Floats
pub mod Quotients
pub mod Told
