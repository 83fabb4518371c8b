pub mod Deciding
pub mod Finding
pub mod NoProvider
pub mod Ranges
pub mod Places
pub mod Starting
pub mod Leaving
pub mod Making
