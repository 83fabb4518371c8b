pub mod References
pub mod FirstUnknown
pub mod Defaults
pub mod Makings
pub mod Refusals
pub mod Columns
