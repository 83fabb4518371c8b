-- Lemmas on the rows of the state at the start: which are claimed, left, taken over or gone.
pub mod Along
pub mod Chains
pub mod Dependents
pub mod Going
pub mod Leaving
pub mod Removing
pub mod TakenOut
pub mod TakenOver
pub mod Turning
