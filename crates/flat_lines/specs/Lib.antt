pub mod Reads
pub mod Numbers
pub mod Operands
pub mod Lines
