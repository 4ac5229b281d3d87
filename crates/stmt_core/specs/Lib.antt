pub mod Bases
pub mod Formulas
