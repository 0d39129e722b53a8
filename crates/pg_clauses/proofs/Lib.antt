pub mod Emitted
pub mod Bools
pub mod Truths
pub mod Numbers
pub mod Nodes
