pub mod Completeness
pub mod Lists
pub mod Places
pub mod Scopes
pub mod Works
