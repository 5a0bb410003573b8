pub mod Arrays
pub mod Lists
mod Zoned
