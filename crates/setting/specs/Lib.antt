pub mod Setting
pub mod Writes
