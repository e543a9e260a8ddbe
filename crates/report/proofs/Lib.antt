pub mod Totals
pub mod Reporting
