pub mod Clocking
pub mod ReadingLaws
pub mod Keeping
pub mod Widths
pub mod Times
pub mod Writing
