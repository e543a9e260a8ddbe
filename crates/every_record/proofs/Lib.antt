pub mod Calling
pub mod OnTheBench
pub mod Reading
pub mod Refusals
