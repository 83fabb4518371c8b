pub mod Keeper
pub mod Rows
pub mod Dependents
pub mod Index
pub mod Indexes
pub mod Based
