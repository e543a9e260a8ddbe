pub mod Writes
pub mod Chip
pub mod Pins
pub mod Reads
pub mod Bytes
pub mod Widths
pub mod private
