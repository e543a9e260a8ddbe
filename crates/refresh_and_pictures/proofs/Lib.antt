pub mod AllRows
pub mod Pictures
