pub mod Clauses
pub mod Decide
pub mod Top
pub mod Members
pub mod Needs
pub mod Layers
pub mod Laid
