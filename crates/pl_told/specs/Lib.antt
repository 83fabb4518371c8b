pub mod Paths
pub mod Column
pub mod Index
pub mod Made
pub mod Stored
pub mod Kept
pub mod Undone
