pub mod Sequents
pub mod Equations
pub mod Places
pub mod Redexes
pub mod Said
pub mod Bridges
pub mod WalkedTerms
