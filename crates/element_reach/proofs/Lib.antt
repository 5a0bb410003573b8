mod Shares
pub mod Nudge
