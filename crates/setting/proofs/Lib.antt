pub mod Made
pub mod Starting
pub mod Writes
