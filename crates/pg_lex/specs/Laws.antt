-- The laws of `token` and `after`, each for every cursor.
use Rattle.std.specs.Prelude.{◌≡◌, ◌≢◌, ℕ, ◌+◌, ◌<◌, List, [], ◌++◌, length, Ok, Err}
use Rattle.pg_lex.specs.declared.token.TokenKind.{TokenKind}
use Rattle.pg_lex.specs.declared.token.TokenKind.TheVariants.{End}
use Rattle.pg_lex.specs.declared.fault.TextFault.{TextFault}
use Rattle.pg_lex.specs.declared.fault.TextFault.TheVariants.{At}
use Rattle.pg_lex.specs.declared.fault.TextKind.{TextKind}
use Rattle.pg_lex.specs.Lex.{Cursor, Lexeme, token, after}
use Rattle.pg_lex.specs.Grammar.{IsGap, IsToken, IsFault, Stops, begins_gap}

-- A token's text is the longest prefix of its class of what stands after the blanks and comments.
abbrev pub MunchesMost : Type 0
MunchesMost = (c : Cursor) (l : Lexeme) → token c ≡ Ok l → IsToken l.kind l.text (after c).rest

-- The text from the cursor on is a gap of blanks and comments alone, as long as can be, and then the
-- token; the token's place, and the place after it, count the bytes up to there.
pub record SplitsText (c : Cursor) (l : Lexeme) : Type 0 where
  pub gap : List ℕ
  pub text : c.rest ≡ gap ++ (l.text ++ (after c).rest)
  pub is_gap : IsGap gap (l.text ++ (after c).rest)
  pub is_longest : Stops begins_gap (l.text ++ (after c).rest)
  pub place : l.place ≡ c.at + length gap
  pub behind : (after c).at ≡ l.place + length l.text

abbrev pub TokensSplitText : Type 0
TokensSplitText = (c : Cursor) (l : Lexeme) → token c ≡ Ok l → SplitsText c l

-- A fault is at its place after the blanks and comments, and no token stands there.
pub record RefusesText (c : Cursor) (place : ℕ) (cause : TextKind) : Type 0 where
  pub gap : List ℕ
  pub behind : List ℕ
  pub text : c.rest ≡ gap ++ behind
  pub is_gap : IsGap gap behind
  pub is_longest : Stops begins_gap behind
  pub place_is : place ≡ c.at + length gap
  pub is_fault : IsFault cause behind

abbrev pub Refuses : Cursor → TextFault → Type 0
Refuses c (At place cause) = RefusesText c place cause
Refuses c _ = ⊥

abbrev pub FaultsAreExact : Type 0
FaultsAreExact = (c : Cursor) (e : TextFault) → token c ≡ Err e → Refuses c e

-- A token other than `End` leaves fewer bytes.
abbrev pub TokensShortenRest : Type 0
TokensShortenRest =
    (c : Cursor) (l : Lexeme) → token c ≡ Ok l → l.kind ≢ End → length (after c).rest < length c.rest

-- Behind `End` nothing is left, and `End` stands there again.
abbrev pub EndStays : Type 0
EndStays =
    (c : Cursor) (l : Lexeme) → token c ≡ Ok l → l.kind ≡ End
    → (l ≡ record { kind = End; place = c.at + length c.rest; text = [] })
    × (after c ≡ record { at = c.at + length c.rest; rest = [] })
    × (token (after c) ≡ Ok l)
    × (after (after c) ≡ after c)

-- What the grammar has at a cursor is read: a gap, and after it the text of a token of the kind.
abbrev pub GrammarIsRead : Type 0
GrammarIsRead =
    (c : Cursor) (kind : TokenKind) (gap text rest : List ℕ)
    → c.rest ≡ gap ++ (text ++ rest) → IsGap gap (text ++ rest) → IsToken kind text rest
    → (token c ≡ Ok (record { kind = kind; place = c.at + length gap; text = text }))
    × (after c ≡ record { at = c.at + length gap + length text; rest = rest })
