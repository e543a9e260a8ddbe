pub mod Demand
pub mod Latches
