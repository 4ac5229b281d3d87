pub mod BaseSteps
pub mod FormulaLemmas
