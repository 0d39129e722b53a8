pub mod Schedule
pub mod Words
pub mod Reading
pub mod Printing
pub mod Held
