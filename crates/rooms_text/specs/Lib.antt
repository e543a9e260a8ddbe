pub mod Rooms
pub mod Lengths
