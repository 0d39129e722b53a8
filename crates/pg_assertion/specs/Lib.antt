pub mod Atom
pub mod Expansion
pub mod Formula
pub mod Layout
pub mod Limits
pub mod StepAtom
