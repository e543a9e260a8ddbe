pub mod Summing
pub mod Passing
pub mod Totals
