-- The token after a place of a text, and the place after the token.
use Rattle.std.specs.Prelude.{ℕ, ◌+◌, false, List, drop, take, Result, Ok, Err, refl}
use Rattle.std.specs.Coded.{Coded, code_by, coded×, coded_ℕ, coded_list}
use Rattle.pg_lex.specs.declared.token.Token.{Token}
use Rattle.pg_lex.specs.declared.token.TokenKind.{TokenKind}
use Rattle.pg_lex.specs.declared.fault.TextFault.{TextFault}
use Rattle.pg_lex.specs.declared.fault.TextFault.TheVariants.{At}
use Rattle.pg_lex.specs.declared.fault.TextKind.{TextKind}
use Rattle.pg_lex.specs.declared.scan.Piece.{Piece}
use Rattle.pg_lex.specs.Piece.{gap_len, piece, piece_len}

-- a place of a text, and the bytes from there on
pub record Cursor : Type 0 where
  pub at : ℕ
  pub rest : List ℕ

abbrev pub cursor_code : Coded Cursor
cursor_code =
    code_by (ℕ × List ℕ) (coded× coded_ℕ (coded_list coded_ℕ)) (λ c. (c.at, c.rest)) (λ p. record { at = p.0; rest = p.1 }) (λ _. refl)

-- a token, with the bytes that it has and not where they lie in memory
pub record Lexeme : Type 0 where
  pub kind : TokenKind
  pub place : ℕ
  pub text : List ℕ

abbrev pub lexeme : Token → Lexeme
lexeme t = record { kind = t.kind; place = t.place; text = t.text.now }

abbrev pub start : List ℕ → Cursor
start text = record { at = 0; rest = text }

-- the cursor n bytes further on
abbrev pub advance : ℕ → Cursor → Cursor
advance n c = record { at = c.at + n; rest = drop n c.rest }

-- the cursor after the blanks and comments
abbrev pub behind_gap : Cursor → Cursor
behind_gap c = advance (gap_len false c.rest) c

abbrev pub lexeme_at : Cursor → Result Piece TextKind → Result Lexeme TextFault
lexeme_at c (Ok p) = Ok (record { kind = p.kind; place = c.at; text = take p.len c.rest })
lexeme_at c (Err k) = Err (At c.at k)

-- the token or the fault after the blanks and comments, at its place
unfoldable pub token : Cursor → Result Lexeme TextFault
token c = lexeme_at (behind_gap c) (piece (behind_gap c).rest)

-- the cursor after that token
unfoldable pub after : Cursor → Cursor
after c = advance (piece_len (piece (behind_gap c).rest)) (behind_gap c)
