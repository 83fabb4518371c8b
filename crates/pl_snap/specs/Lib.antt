pub mod Calls
pub mod Lists
pub mod Model
pub mod Places
pub mod Rows
pub mod Stamps
