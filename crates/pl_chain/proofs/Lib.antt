pub mod Given
pub mod Protected
pub mod Stands
