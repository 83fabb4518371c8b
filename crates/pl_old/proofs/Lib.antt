pub mod Along
pub mod Filtered
