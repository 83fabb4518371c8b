-- Lemmas on a run in which nothing is out, due or over the limit.
pub mod Calm
pub mod Circling
pub mod Ending
pub mod Foreseeing
pub mod Quieting
pub mod Replying
pub mod Troubles
pub mod Working
