pub mod Formulas
pub mod Corrections
pub mod Source
pub mod Misprints
