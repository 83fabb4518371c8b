pub mod Claimed
pub mod Given
