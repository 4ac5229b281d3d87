pub mod Outcome
pub mod Headline
pub mod Replaying
pub mod Endings
