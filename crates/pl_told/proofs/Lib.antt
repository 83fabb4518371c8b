pub mod Places
pub mod Indexed
pub mod Seen
pub mod Undoing
