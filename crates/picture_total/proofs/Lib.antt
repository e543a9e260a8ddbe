pub mod Sums
pub mod Picture
