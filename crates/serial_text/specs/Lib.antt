pub mod Turn
pub mod Ending
