pub mod Entries
pub mod Judged
pub mod Read
