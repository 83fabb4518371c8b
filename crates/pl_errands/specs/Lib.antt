pub mod Tickets
pub mod Undone
pub mod Rows
pub mod Lanes
pub mod Agree
pub mod SameOps
pub mod Index
pub mod Kept
