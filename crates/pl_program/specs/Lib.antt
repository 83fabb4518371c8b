pub mod Begun
pub mod Due
pub mod Generated
pub mod Heard
pub mod Told
