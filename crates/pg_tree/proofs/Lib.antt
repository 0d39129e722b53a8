pub mod Units
pub mod Validity
pub mod Marks
