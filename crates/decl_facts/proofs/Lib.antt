pub mod Applied
pub mod Numbered
pub mod Branches
pub mod FormulaLists
