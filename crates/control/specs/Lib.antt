pub mod Names
pub mod Write
