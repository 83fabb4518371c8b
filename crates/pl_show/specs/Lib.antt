pub mod Line
pub mod StopLine
