pub mod Ids
pub mod Column
pub mod Reading
pub mod Making
pub mod Follows
