pub mod Closures
pub mod Dependents
pub mod Members
pub mod Order
