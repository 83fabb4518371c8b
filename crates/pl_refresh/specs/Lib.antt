pub mod Covers
pub mod Parents
pub mod Planned
pub mod Refreshed
pub mod Rows
