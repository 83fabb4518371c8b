pub mod Columns
pub mod Index
pub mod Kept
pub mod Follows
pub mod Reads
