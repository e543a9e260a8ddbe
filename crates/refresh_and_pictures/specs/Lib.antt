pub mod Refresh
pub mod Picture
