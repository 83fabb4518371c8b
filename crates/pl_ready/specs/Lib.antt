pub mod Keepers
