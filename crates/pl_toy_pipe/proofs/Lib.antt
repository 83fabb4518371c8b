pub mod Hearing
pub mod Reaching
