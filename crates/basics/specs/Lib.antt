pub mod Choice
pub mod Bits
pub mod Iterate
pub mod Width
pub mod Lay
pub mod Count
