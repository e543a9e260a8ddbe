pub mod Runs
pub mod Replaying
