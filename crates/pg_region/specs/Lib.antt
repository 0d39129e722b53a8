pub mod Literal
pub mod Pieces
pub mod Region
pub mod Room
pub mod Range
pub mod Reading
pub mod Sink
