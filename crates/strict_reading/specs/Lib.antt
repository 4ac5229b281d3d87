pub mod Steps
pub mod Words
pub mod Types
pub mod Terms
