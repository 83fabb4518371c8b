pub mod Plain
pub mod PlainTickets
pub mod Alike
pub mod Settling
pub mod Unchanged
mod Steps
mod Reading
pub mod Lanes
mod Whole
mod Ready
mod Works
mod Next
mod Enough
mod Same
mod Happen
