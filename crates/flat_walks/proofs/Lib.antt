pub mod Steps
pub mod Lacking
pub mod Memo
pub mod Opening
