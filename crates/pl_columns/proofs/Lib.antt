pub mod Read
pub mod Alike
pub mod Following
pub mod Told
