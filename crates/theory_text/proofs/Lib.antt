pub mod Bytes
pub mod Stated
pub mod VariablesOfTypes
pub mod VariablesOfTerms
pub mod Strayed
