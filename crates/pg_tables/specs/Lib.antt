pub mod Clause
pub mod Table
pub mod Shapes
pub mod Truth
pub mod Bound
pub mod Steps
