pub mod Closing
pub mod Halted
pub mod Lanes
pub mod Replies
pub mod Requests
pub mod Seen
