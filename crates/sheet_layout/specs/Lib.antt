pub mod Some
pub mod Format
pub mod Axis
pub mod SameLines
pub mod Neighbours
pub mod EncodingLaws
pub mod Examples
pub mod UnevenMesh
