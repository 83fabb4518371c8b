-- Lemmas on the providers of goals and rows.
pub mod Provided
pub mod Providers
pub mod Serving
pub mod TurningProviders
