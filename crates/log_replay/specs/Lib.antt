pub mod Messages
pub mod Replayed
pub mod Lines
