pub mod Along
pub mod Gaps
pub mod Rises
pub mod Quotients
