pub mod Sinks
pub mod Lists
pub mod Truth
pub mod Bounds
pub mod OneValue
