pub mod Zones
pub mod ZoneLaws
pub mod Examples
