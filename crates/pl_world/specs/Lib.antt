pub mod Causes
pub mod Counts
pub mod FrameIn
pub mod Frames
pub mod Numbers
pub mod Told
