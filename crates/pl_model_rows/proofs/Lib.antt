pub mod OnHistories
pub mod Values
