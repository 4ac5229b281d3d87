pub mod Equal
pub mod Spots
pub mod Built
pub mod Parts
pub mod Grown
pub mod Build
pub mod Read
