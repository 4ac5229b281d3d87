pub mod BaseTexts
pub mod Named
pub mod Walks
pub mod Definitions
pub mod Steps
pub mod Bridges
pub mod Positions
pub mod Checked
