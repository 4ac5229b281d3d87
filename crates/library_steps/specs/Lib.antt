pub mod Closed
pub mod Building
