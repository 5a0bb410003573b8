pub mod OffMesh
pub mod Refusal
