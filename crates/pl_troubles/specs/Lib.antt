pub mod First
pub mod Marks
pub mod Told
pub mod Kept
pub mod Follows
