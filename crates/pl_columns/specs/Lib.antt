pub mod Read
pub mod Follows
