pub mod Examples
pub mod Limited
pub mod Permits
pub mod Rows
pub mod Table
