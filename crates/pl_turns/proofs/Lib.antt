pub mod Goals
pub mod Reached
pub mod Chains
pub mod Deciding
pub mod Backs
pub mod Turns
pub mod Protecting
pub mod Nexts
