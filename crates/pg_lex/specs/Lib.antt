pub mod Limits
pub mod Piece
pub mod Lex
pub mod Grammar
pub mod Laws
