pub mod Command
pub mod Views
pub mod Definable
pub mod Strays
