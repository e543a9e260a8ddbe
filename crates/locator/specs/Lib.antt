pub mod Cells
pub mod Locate
pub mod private
