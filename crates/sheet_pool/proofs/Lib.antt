pub mod Conditions
pub mod Chain
pub mod Pooled
mod SameBytes
mod Orders
mod Examples
pub mod Laws
