pub mod OneBit
pub mod Written
