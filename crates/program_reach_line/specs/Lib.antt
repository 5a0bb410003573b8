pub mod ReachLine
pub mod ReachLineLaws
