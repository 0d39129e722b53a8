pub mod Definitional
pub mod Truth
pub mod Made
