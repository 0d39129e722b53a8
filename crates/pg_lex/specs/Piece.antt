-- The token in front of a list of bytes, by the first of them. Bytes are numbers.
use Rattle.std.specs.Prelude.{ℕ, ◌+◌, ◌-◌, ◌*◌, Bool, true, false, not, ◌&&◌, ◌||◌, if◌then◌else◌, ◌==◌, nat_le, nat_lt, List, [], ◌∷◌, length, slice_index, codes, nat_eq, take_while, find, Option, Some, None, Result, Ok, Err}
use Rattle.std.specs.List.{prefix_len, starts_with}
use Rattle.pg_lex.specs.declared.token.Sign.{Sign}
use Rattle.pg_lex.specs.declared.token.Sign.TheVariants.{Assign, Arrow, NotEqual, Equal, Not, And, Or, Plus, Minus, Times, Open, Close, OpenSquare, CloseSquare, OpenBrace, CloseBrace, Less, Greater, Semicolon, Comma}
use Rattle.pg_lex.specs.declared.token.TokenKind.TheVariants as kind
use Rattle.pg_lex.specs.declared.fault.TextKind.{TextKind}
use Rattle.pg_lex.specs.declared.fault.TextKind.TheVariants.{NotAscii, BadCharacter, NumberTooLarge, NameTooLong}
use Rattle.pg_lex.specs.declared.scan.Piece.{Piece}
use Rattle.pg_lex.specs.Limits.{longest_word, number_bound}

-- ---- classes of bytes

-- space, tab, carriage return, newline
abbrev pub is_blank : ℕ → Bool
is_blank b = b == 32 || b == 9 || b == 13 || b == 10

-- a to z
abbrev pub is_lower : ℕ → Bool
is_lower b = nat_le 97 b && nat_le b 122

-- 0 to 9
abbrev pub is_digit : ℕ → Bool
is_digit b = nat_le 48 b && nat_le b 57

-- what may stand in a word after its first byte
abbrev pub is_word : ℕ → Bool
is_word b = is_lower b || is_digit b || b == 95

-- A C F L N O P R
abbrev pub is_letter : ℕ → Bool
is_letter b = b == 65 || b == 67 || b == 70 || b == 76 || b == 78 || b == 79 || b == 80 || b == 82

-- ---- what stands between tokens

-- How many bytes of blanks and comments stand in front, from inside a comment or from outside one.
-- A comment runs from `#` to the next newline, or to the end.
abbrev pub gap_len : Bool → List ℕ → ℕ
gap_len in_comment [] = 0
gap_len true (b ∷ bs) = 1 + gap_len (not (b == 10)) bs
gap_len false (b ∷ bs) = if is_blank b then 1 + gap_len false bs else (if b == 35 then 1 + gap_len true bs else 0)

-- ---- the kinds of tokens

-- a word of n bytes
abbrev pub word : ℕ → Result Piece TextKind
word n = if nat_le n longest_word then Ok (record { kind = kind.Word; len = n }) else Err NameTooLong

-- the number that digits spell after digits that spell n
abbrev pub value_from : ℕ → List ℕ → ℕ
value_from n [] = n
value_from n (d ∷ ds) = value_from (10 * n + (d - 48)) ds

abbrev pub value : List ℕ → ℕ
value ds = value_from 0 ds

abbrev pub number : List ℕ → Result Piece TextKind
number ds = if nat_lt (value ds) number_bound then Ok (record { kind = kind.Number (value ds); len = length ds }) else Err NumberTooLarge

-- the signs, in the order of the grammar: a longer one before those that it begins with
abbrev pub signs : List Sign
signs =
    Assign ∷ Arrow ∷ NotEqual ∷ Equal ∷ Not ∷ And ∷ Or ∷ Plus ∷ Minus ∷ Times ∷ Open ∷ Close ∷ OpenSquare
    ∷ CloseSquare ∷ OpenBrace ∷ CloseBrace ∷ Less ∷ Greater ∷ Semicolon ∷ Comma ∷ []

abbrev pub spelling : Sign → List ℕ
spelling Assign = codes ":="
spelling Arrow = codes "->"
spelling NotEqual = codes "!="
spelling Equal = codes "="
spelling Not = codes "!"
spelling And = codes "&"
spelling Or = codes "|"
spelling Plus = codes "+"
spelling Minus = codes "-"
spelling Times = codes "*"
spelling Open = codes "("
spelling Close = codes ")"
spelling OpenSquare = codes "["
spelling CloseSquare = codes "]"
spelling OpenBrace = codes "{"
spelling CloseBrace = codes "}"
spelling Less = codes "<"
spelling Greater = codes ">"
spelling Semicolon = codes ";"
spelling Comma = codes ","

-- the first of the signs that two bytes begin with; at the end the second byte is 0
unfoldable pub sign_of : ℕ → ℕ → Option Sign
sign_of a b = find (λ s. starts_with nat_eq (a ∷ b ∷ []) (spelling s)) signs

abbrev pub sign : Option Sign → Result Piece TextKind
sign None = Err BadCharacter
sign (Some s) = Ok (record { kind = kind.Sign s; len = length (spelling s) })

-- The token in front, where no blank or comment stands there: by its first byte.
unfoldable pub piece : List ℕ → Result Piece TextKind
piece [] = Ok (record { kind = kind.End; len = 0 })
piece (b ∷ bs) =
    if is_lower b then word (prefix_len is_word (b ∷ bs))
    else (if is_digit b then number (take_while is_digit (b ∷ bs))
    else (if is_letter b then Ok (record { kind = kind.Letter b; len = 1 })
    else (if nat_le 128 b then Err NotAscii
    else sign (sign_of b (slice_index bs 0)))))

abbrev pub piece_len : Result Piece TextKind → ℕ
piece_len (Ok p) = p.len
piece_len (Err _) = 0
