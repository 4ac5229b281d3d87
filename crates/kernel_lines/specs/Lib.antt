pub mod Names
pub mod Bases
pub mod Lines
pub mod Ready
