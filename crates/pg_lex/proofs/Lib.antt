pub mod Digits
pub mod Runs
pub mod Gaps
pub mod Signs
pub mod Pieces
pub mod Cursors
pub mod Reading
pub mod Words
