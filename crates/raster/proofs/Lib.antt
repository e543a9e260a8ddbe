pub mod Bases
pub mod Fields
pub mod LineEnds
pub mod Outcomes
pub mod Syncs
pub mod Widths
