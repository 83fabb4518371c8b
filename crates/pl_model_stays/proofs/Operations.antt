-- Lemmas on operations: their tickets, lanes and sources.
pub mod Configuring
pub mod LaneCounts
pub mod Lanes
pub mod Once
pub mod Sourcing
pub mod Ticketing
