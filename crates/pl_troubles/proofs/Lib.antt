pub mod Telling
pub mod Marking
pub mod Following
