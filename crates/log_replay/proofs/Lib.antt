pub mod Texts
pub mod Feeding
pub mod Bytes
pub mod Closing
