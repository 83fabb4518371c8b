pub mod Kept
pub mod Posted
pub mod Dues
pub mod Entries
