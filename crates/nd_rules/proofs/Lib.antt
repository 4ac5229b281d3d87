pub mod Keeping
pub mod Hypotheses
pub mod Shapes
mod BinderLemmas
mod BinderCases
