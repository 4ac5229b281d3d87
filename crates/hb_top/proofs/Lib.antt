pub mod Shelves
pub mod Saying
pub mod Running
pub mod Replayed
