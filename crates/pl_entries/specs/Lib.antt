pub mod Recorded
pub mod Opened
pub mod AreDecided
