pub mod Goals
pub mod Lists
pub mod Operations
pub mod Work
