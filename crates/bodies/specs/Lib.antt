pub mod Bodies
pub mod Told
