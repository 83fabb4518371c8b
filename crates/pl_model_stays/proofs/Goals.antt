-- Lemmas on goals: their claims, what recorded them, their entries.
pub mod Asking
pub mod Claiming
pub mod KeptEntries
pub mod Recorded
pub mod Standing
pub mod Staying
pub mod Subjects
