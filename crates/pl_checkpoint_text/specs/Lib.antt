pub mod Spelled
pub mod Formed
pub mod Laws
pub mod Pieces
pub mod ReadField
pub mod ReadEntry
pub mod Read
pub mod ReadLaws
