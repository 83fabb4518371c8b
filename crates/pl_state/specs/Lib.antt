pub mod Chain
pub mod Component
pub mod Formed
pub mod Kinds
pub mod References
