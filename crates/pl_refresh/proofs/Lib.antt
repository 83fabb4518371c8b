pub mod Above
pub mod Ancestors
pub mod Behind
pub mod Covers
pub mod Over
