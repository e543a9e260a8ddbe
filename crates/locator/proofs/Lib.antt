pub mod Lines
pub mod Fits
pub mod Columns
pub mod Ends
pub mod Listed
pub mod Locating
