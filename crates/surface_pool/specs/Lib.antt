pub mod PoolSurface
pub mod Examples
