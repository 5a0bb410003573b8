pub mod Printed
pub mod Misprinted
