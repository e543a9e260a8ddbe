pub mod Registers
pub mod Scan
pub mod Sync
pub mod Widths
pub mod private
