pub mod Table
pub mod Premises
