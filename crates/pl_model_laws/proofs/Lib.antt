pub mod Endings
pub mod Providing
pub mod References
pub mod Rereadings
pub mod Rows
pub mod Saving
pub mod Urns
