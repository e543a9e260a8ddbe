pub mod Reached
pub mod Acting
pub mod Placing
pub mod Times
pub mod Places
pub mod Frames
