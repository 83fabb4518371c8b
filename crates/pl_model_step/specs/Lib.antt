pub mod Law
pub mod Reads
pub mod Enough
