pub mod Field
pub mod Message
pub mod Readable
pub mod Spelled
