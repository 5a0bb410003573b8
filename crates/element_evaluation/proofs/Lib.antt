pub mod Exact
pub mod Derived
pub mod Factors
