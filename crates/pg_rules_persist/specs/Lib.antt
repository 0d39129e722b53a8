pub mod Rows
pub mod Shape
pub mod Persist
pub mod Bound
