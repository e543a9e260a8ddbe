pub mod Modes
pub mod Counter
pub mod private
pub mod Edges
