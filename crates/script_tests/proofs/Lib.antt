pub mod Shelves
pub mod GivenValues
pub mod NewTypes
pub mod Cases
pub mod ListKernel
pub mod Conjunctions
