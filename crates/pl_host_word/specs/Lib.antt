pub mod Answer
pub mod Laws
pub mod Parent
pub mod Spelled
pub mod Word
pub mod Words
