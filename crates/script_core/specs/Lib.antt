pub mod Words
pub mod Conversions
pub mod Steps
pub mod Tables
pub mod Ready
pub mod Shelves
