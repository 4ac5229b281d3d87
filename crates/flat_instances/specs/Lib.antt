pub mod Types
pub mod Terms
pub mod Orders
pub mod Retypings
pub mod TablesGrow
