pub mod Derivation
pub mod Text
pub mod Fault
pub mod Kept
pub mod Lent
pub mod Read
pub mod Place
pub mod Laws
