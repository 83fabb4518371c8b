pub mod Index
pub mod Soundness
