pub mod Faults
pub mod Fits
pub mod Laws
pub mod Objects
pub mod Read
pub mod Spelled
pub mod Texts
