pub mod Axioms
pub mod Places
pub mod Truth
pub mod Bound
