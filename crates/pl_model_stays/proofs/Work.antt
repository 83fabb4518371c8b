-- Lemmas on the work that is due, and on what is left of it.
pub mod Choosing
pub mod Falling
pub mod KeptDue
pub mod Listing
pub mod Unknowns
pub mod Waiting
