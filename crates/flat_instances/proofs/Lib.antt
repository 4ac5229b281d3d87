pub mod Growth
pub mod TypeSteps
pub mod TermSteps
pub mod OrderSteps
pub mod RetypeSteps
pub mod TablesGrow
