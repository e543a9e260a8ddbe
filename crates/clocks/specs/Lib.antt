pub mod Walk
pub mod private
