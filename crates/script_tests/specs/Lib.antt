pub mod Closed
pub mod Lists
