pub mod Applications
pub mod Texts
