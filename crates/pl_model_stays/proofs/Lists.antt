-- Lemmas on lists, ranges and counts.
pub mod Among
pub mod Counting
pub mod Growing
pub mod Pairs
pub mod Ranges
