pub mod Examples
pub mod Numerals
pub mod Causes
pub mod BaseStands
pub mod Standing
