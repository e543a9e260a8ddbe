pub mod Done
pub mod Reading
pub mod Steps
