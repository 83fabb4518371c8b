pub mod Going
pub mod Weighing
