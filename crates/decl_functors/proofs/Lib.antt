pub mod TypeLists
pub mod Dead
