-- What stands between tokens, what a token is and what a fault is, apart from how each is found.
use Rattle.std.specs.Prelude.{◌≡◌, ◌≢◌, ℕ, ◌<◌, ◌≤◌, Bool, not, IsTrue, IsFalse, ◌&&◌, ◌||◌, ◌==◌, nat_le, nat_lt, List, [], ◌∷◌, ◌++◌, length}
use Rattle.pg_lex.specs.declared.token.Sign.{Sign}
use Rattle.pg_lex.specs.declared.token.TokenKind.{TokenKind}
use Rattle.pg_lex.specs.declared.token.TokenKind.TheVariants as kind
use Rattle.pg_lex.specs.declared.fault.TextKind.{TextKind}
use Rattle.pg_lex.specs.declared.fault.TextKind.TheVariants.{NotAscii, BadCharacter, NumberTooLarge, NameTooLong, Unexpected, UnknownName, Redeclared, TooMany, TooDeep}
use Rattle.pg_lex.specs.Limits.{longest_word, number_bound}
use Rattle.pg_lex.specs.Piece.{is_blank, is_lower, is_digit, is_word, is_letter, value, spelling}

-- ---- bytes of a class

-- each byte is of the class
abbrev pub AllIn : (ℕ → Bool) → List ℕ → Type 0
AllIn class [] = Unit {0}
AllIn class (b ∷ bs) = IsTrue (class b) × AllIn class bs

-- there is a first byte, and it is of the class
abbrev pub Begins : (ℕ → Bool) → List ℕ → Type 0
Begins class [] = ⊥
Begins class (b ∷ bs) = IsTrue (class b)

-- the first byte, if there is one, is not of the class
abbrev pub Stops : (ℕ → Bool) → List ℕ → Type 0
Stops class [] = Unit {0}
Stops class (b ∷ bs) = IsFalse (class b)

-- the longest prefix of its class, where rest comes after it
abbrev pub IsRun : (ℕ → Bool) → List ℕ → List ℕ → Type 0
IsRun class text rest = AllIn class text × Stops class rest

-- ---- between tokens

abbrev pub in_line : ℕ → Bool
in_line b = not (b == 10)

-- blanks and comments in front of rest; a comment that no newline ends goes to the end of the text
pub data IsGap : List ℕ → List ℕ → Type 0 where
  nothing : (rest : List ℕ) → IsGap [] rest
  blank : (b : ℕ) (gap rest : List ℕ) → IsTrue (is_blank b) → IsGap gap rest → IsGap (b ∷ gap) rest
  comment : (line gap rest : List ℕ) → AllIn in_line line → IsGap gap rest → IsGap (35 ∷ (line ++ 10 ∷ gap)) rest
  last_comment : (line : List ℕ) → AllIn in_line line → IsGap (35 ∷ line) []

abbrev pub begins_gap : ℕ → Bool
begins_gap b = is_blank b || b == 35

-- ---- tokens and faults

-- the text is that of a token of this kind, where rest comes after it
abbrev pub IsToken : TokenKind → List ℕ → List ℕ → Type 0
IsToken kind.Word text rest = Begins is_lower text × IsRun is_word text rest × (length text ≤ longest_word)
IsToken (kind.Number n) text rest = Begins is_digit text × IsRun is_digit text rest × (n ≡ value text) × (n < number_bound)
IsToken (kind.Letter b) text rest = (text ≡ b ∷ []) × IsTrue (is_letter b)
IsToken (kind.Sign s) text rest =
    (text ≡ spelling s)
    × ((t : Sign) (more : List ℕ) → text ++ rest ≡ spelling t ++ more → length (spelling t) ≤ length text)
IsToken kind.End text rest = (text ≡ []) × (rest ≡ [])

-- the bytes begin with a run of the class that is as the claim says
pub record HasRun (class : ℕ → Bool) (Claim : List ℕ → Type 0) (bytes : List ℕ) : Type 0 where
  pub text : List ℕ
  pub rest : List ℕ
  pub split : bytes ≡ text ++ rest
  pub is_run : IsRun class text rest
  pub claim : Claim text

-- an ASCII byte that begins no word, no number and no letter
abbrev pub begins_no_name : ℕ → Bool
begins_no_name b = nat_lt b 128 && not (is_lower b) && not (is_digit b) && not (is_letter b)

-- why no token is in front of the bytes
abbrev pub IsFault : TextKind → List ℕ → Type 0
IsFault NotAscii bytes = Begins (nat_le 128) bytes
IsFault BadCharacter bytes = Begins begins_no_name bytes × ((s : Sign) (more : List ℕ) → bytes ≢ spelling s ++ more)
IsFault NumberTooLarge bytes = Begins is_digit bytes × HasRun is_digit (λ text. number_bound ≤ value text) bytes
IsFault NameTooLong bytes = Begins is_lower bytes × HasRun is_word (λ text. longest_word < length text) bytes
IsFault Unexpected bytes = ⊥
IsFault UnknownName bytes = ⊥
IsFault Redeclared bytes = ⊥
IsFault TooMany bytes = ⊥
IsFault TooDeep bytes = ⊥
