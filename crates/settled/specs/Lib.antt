pub mod Cases
pub mod Premises
