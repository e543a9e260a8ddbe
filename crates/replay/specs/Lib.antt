pub mod Ending
pub mod Run
pub mod Rest
