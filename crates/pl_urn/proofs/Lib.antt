pub mod Calls
pub mod Cuts
pub mod Parts
pub mod Children
