pub mod Report
pub mod private
