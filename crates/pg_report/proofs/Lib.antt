mod Pieces
mod FreshLines
mod Numbered
mod Within
mod Names
mod Meant
mod Appended
mod Located
pub mod TrueAtoms
pub mod Told
