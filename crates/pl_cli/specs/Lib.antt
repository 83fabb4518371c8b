pub mod Table
pub mod Word
pub mod Place
pub mod Reading
pub mod Command
