pub mod Zoned
pub mod ZonedLaws
pub mod Examples
