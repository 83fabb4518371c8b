pub mod Goals
pub mod Seen
pub mod Chained
pub mod Diffs
pub mod Next
pub mod Undone
