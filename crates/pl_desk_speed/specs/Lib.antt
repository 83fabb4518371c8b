pub mod Kinds
pub mod Printed
pub mod Told
pub mod Turns
