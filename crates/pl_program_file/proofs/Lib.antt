pub mod KeptValues
pub mod Levels
pub mod OneByOne
