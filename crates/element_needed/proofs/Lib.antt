mod Neither
pub mod Counterexamples
