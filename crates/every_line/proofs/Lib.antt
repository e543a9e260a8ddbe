pub mod Records
pub mod Calls
pub mod Cuts
pub mod Demand
