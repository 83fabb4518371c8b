pub mod Since
pub mod Least
pub mod Holding
pub mod Unmet
pub mod Fresh
pub mod Before
