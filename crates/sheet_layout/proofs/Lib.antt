pub mod Meaning
pub mod Some
pub mod Gathered
pub mod NodeRange
pub mod NodeWords
pub mod Encoding
pub mod Decoding
pub mod Numbers
pub mod Offsets
pub mod SameFront
pub mod SameLines
pub mod Written
pub mod NeighbourLaws
mod Examples
