pub mod Cells
pub mod Bus
pub mod Edge
pub mod Refresh
pub mod Chip
pub mod private
