pub mod Counts
pub mod Failing
pub mod Folder
pub mod Page
pub mod Shelf
pub mod Told
pub mod Written
