pub mod Digits
pub mod Cuts
pub mod Kept
pub mod Turns
pub mod Again
