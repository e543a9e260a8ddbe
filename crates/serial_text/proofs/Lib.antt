pub mod Telling
pub mod Said
