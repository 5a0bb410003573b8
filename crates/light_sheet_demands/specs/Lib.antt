pub mod CallRecords
pub mod Demands
pub mod Slopes
pub mod Bends
pub mod Growing
pub mod Pooling
pub mod Reach
pub mod Zones
