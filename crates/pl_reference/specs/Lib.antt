pub mod Reference
pub mod Packages
