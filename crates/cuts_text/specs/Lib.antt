pub mod Asked
pub mod Made
pub mod Whole
pub mod private
