pub mod Hexing
pub mod Lining
pub mod Adding
pub mod Holding
