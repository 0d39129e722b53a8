pub mod Declared
pub mod Walked
