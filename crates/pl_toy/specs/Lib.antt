pub mod Table
pub mod Things
