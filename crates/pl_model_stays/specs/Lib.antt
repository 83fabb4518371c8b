pub mod Laws
pub mod Kept
pub mod Order
pub mod Choosing
pub mod Falling
