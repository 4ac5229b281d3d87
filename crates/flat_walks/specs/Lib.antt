pub mod Walk
pub mod Number
pub mod Opens
pub mod Lacks
