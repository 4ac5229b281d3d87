pub mod Facts
pub mod Shapes
pub mod Connectives
pub mod Binders
pub mod Quantifiers
pub mod Kept
