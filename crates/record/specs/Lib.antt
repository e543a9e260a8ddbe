pub mod Decode
pub mod Refusals
pub mod Sent
