pub mod Told
pub mod Keeping
pub mod Steps
pub mod Grouped
pub mod Joined
