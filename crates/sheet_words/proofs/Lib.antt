pub mod Signs
pub mod Bytes
pub mod Replaced
pub mod Laws
