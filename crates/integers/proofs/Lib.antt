-- What other crates' proofs may cite is `pub mod`.
pub mod RingLaws
pub mod Polynomial
pub mod Solve
pub mod Order
pub mod Deduce
pub mod Naturals
pub mod Bounds
pub mod Operand
pub mod Floors
pub mod Rounding
pub mod RoundedSums
pub mod Prepared
mod Rest
mod Constants
pub mod Parameters
pub mod Stepwise
pub mod InOrder
