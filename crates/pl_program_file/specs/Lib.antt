pub mod Filled
pub mod Names
pub mod Read
pub mod Reference
pub mod Registered
