pub mod Sums
pub mod Tally
pub mod private
