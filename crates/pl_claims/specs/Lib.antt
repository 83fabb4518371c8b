pub mod Columns
pub mod Marks
pub mod Kept
pub mod Follows
