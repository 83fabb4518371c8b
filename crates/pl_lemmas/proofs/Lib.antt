pub mod Truth
pub mod Options
pub mod Numbers
pub mod Lists
pub mod Each
pub mod Numbered
