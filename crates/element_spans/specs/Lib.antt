pub mod Span
pub mod Needs
pub mod Ends
