pub mod Bearers
pub mod Follows
pub mod Kept
pub mod ListLemmas
pub mod Rising
pub mod RowLemmas
