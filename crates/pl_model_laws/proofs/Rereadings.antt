-- Lemmas on a run that reads every row anew.
pub mod Importing
pub mod Pruning
pub mod Rereading
