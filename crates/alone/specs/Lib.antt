pub mod Bodies
pub mod Events
pub mod Records
