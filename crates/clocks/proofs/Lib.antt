pub mod Walking
pub mod Columns
pub mod Lines
pub mod Reaching
