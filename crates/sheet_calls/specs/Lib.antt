pub mod Rules
pub mod Refusals
pub mod WellFormed
pub mod OnSameLines
pub mod Calls
pub mod NodeLaws
pub mod Examples
pub mod Refused
