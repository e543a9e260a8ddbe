pub mod Lines
pub mod Marked
