pub mod CallEnding
pub mod Held
pub mod Line
pub mod private
