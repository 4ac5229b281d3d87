pub mod Step
pub mod Line
pub mod Position
pub mod Log
