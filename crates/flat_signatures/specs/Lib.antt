pub mod Segments
pub mod FlatNames
pub mod Reads
pub mod Starting
pub mod Over
pub mod Behind
pub mod Walked
