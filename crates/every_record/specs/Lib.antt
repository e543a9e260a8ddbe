pub mod Alone
pub mod Calls
pub mod Reads
pub mod Refusals
