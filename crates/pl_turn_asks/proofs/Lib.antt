pub mod Turns
pub mod Rows
pub mod Posts
pub mod Dues
pub mod Entries
pub mod Starts
