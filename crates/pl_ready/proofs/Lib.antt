pub mod Flat
pub mod Places
pub mod Keeping
pub mod Unturned
pub mod Holding
pub mod Claimed
