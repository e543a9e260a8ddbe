pub mod Calls
pub mod Widths
pub mod Frames
