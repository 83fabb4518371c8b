-- Lemmas on what an entry refers to, and that it is found before it.
pub mod Founding
pub mod Naming
pub mod Places
pub mod Referring
pub mod Sounding
pub mod Wants
