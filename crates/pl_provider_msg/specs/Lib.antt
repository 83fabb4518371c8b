pub mod Laws
pub mod Parts
pub mod Reasons
pub mod Request
pub mod Response
pub mod Words
