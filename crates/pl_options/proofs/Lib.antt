pub mod Faults
pub mod FirstBad
pub mod OnLiterals
pub mod Readers
pub mod Renamed
