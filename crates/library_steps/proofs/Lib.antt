pub mod Taken
pub mod Shown
pub mod Defined
pub mod Computed
