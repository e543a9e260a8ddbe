pub mod Asking
pub mod Ranks
pub mod Walking
