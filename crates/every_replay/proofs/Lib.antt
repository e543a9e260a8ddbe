pub mod Counts
pub mod Parts
pub mod Answers
