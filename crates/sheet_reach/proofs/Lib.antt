mod Input
pub mod Refused
pub mod Axis
mod Lines
mod Cut
mod Examples
pub mod Laws
