pub mod Adds
pub mod Shares
