pub mod Found
pub mod Grammar
pub mod Laws
pub mod Nested
pub mod Reset
pub mod Steps
pub mod Written
