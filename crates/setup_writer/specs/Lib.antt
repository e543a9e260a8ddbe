pub mod Write
pub mod private
