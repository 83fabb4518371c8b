pub mod Turned
pub mod Answered
