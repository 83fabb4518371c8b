pub mod Seen
pub mod Now
pub mod Chosen
pub mod Summed
