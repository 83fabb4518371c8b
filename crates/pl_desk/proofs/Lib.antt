pub mod Endings
pub mod Joined
pub mod Lines
pub mod Loads
pub mod Steps
pub mod Tokens
