pub mod Reduction
pub mod Fresh
pub mod Conv
pub mod Eta
pub mod Rewriting
