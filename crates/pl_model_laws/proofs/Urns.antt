-- Lemmas on URNs: two entries that are to stay have URNs of their own.
pub mod Distinct
pub mod Freed
pub mod Freeing
pub mod Keeping
