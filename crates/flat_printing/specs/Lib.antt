pub mod Forms
pub mod Commas
