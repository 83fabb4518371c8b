pub mod Example
pub mod GoalOf
pub mod Ignored
pub mod Names
pub mod Refused
