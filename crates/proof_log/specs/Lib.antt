pub mod Segments
pub mod Lines
pub mod Marks
pub mod Written
pub mod Gained
pub mod Theories
