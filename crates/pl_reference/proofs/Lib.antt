pub mod References
pub mod Packages
