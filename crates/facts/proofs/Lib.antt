pub mod Addresses
pub mod Latching
pub mod Parts
