pub mod Setup
pub mod File
pub mod Refusals
