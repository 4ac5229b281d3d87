pub mod Answer
pub mod Layout
pub mod Answered
pub mod Verdicts
pub mod Theories
