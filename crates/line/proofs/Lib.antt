pub mod Holding
pub mod Calling
pub mod Accepting
pub mod Completing
