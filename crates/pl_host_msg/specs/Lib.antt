pub mod Field
pub mod Word
pub mod Answer
pub mod Told
