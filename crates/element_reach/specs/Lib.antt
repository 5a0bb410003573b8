pub mod Follows
pub mod Nudge
