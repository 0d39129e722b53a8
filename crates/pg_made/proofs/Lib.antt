mod Turns
mod Statements
mod Drafts
pub mod Programs
pub mod Outlines
