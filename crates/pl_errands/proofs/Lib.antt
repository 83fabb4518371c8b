pub mod Lists
pub mod Places
pub mod Events
pub mod RowSteps
pub mod LaneSteps
pub mod Steps
mod Reopening
mod Undoing
pub mod Reading
pub mod Looking
pub mod Seen
