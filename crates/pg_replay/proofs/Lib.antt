pub mod Ranges
pub mod Least
pub mod Written
pub mod Decided
pub mod OneAnswer
pub mod Unviolated
pub mod Going
pub mod LineParts
