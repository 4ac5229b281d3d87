pub mod Numerals
pub mod Operands
pub mod Pairs
pub mod Forms
