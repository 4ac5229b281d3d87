pub mod Reads
pub mod Signs
pub mod Scopes
