-- Words and names, and the tokens that a phrase is made of.
use Rattle.std.specs.Prelude.{◌≡◌, ℕ, Bool, false, List, [], ◌∷◌, codes, Some, Ok}
use Rattle.std.specs.List.{list_any}
use Rattle.std.specs.Str.{bytes_eq, IsUtf8}
use denote.Enum.Bare.{sameb}
use Rattle.pg_lex.specs.declared.token.Sign.{Sign}
use Rattle.pg_lex.specs.declared.token.TokenKind.TheVariants as kind
use Rattle.pg_lex.specs.contracts.token.Sign as signs
use Rattle.pg_lex.specs.Lex.{Cursor, Lexeme, token, after}
use Rattle.pg_program.specs.NameTable.{NameTable, find}
use Rattle.pg_program.specs.declared.name_table.NameRef.TheVariants as place

-- the words that are no names
abbrev pub reserved : List (List ℕ)
reserved =
    codes "pierogi" ∷ codes "values" ∷ codes "location" ∷ codes "register" ∷ codes "of" ∷ codes "auxiliary" ∷ codes "pre"
    ∷ codes "crash" ∷ codes "thread" ∷ codes "if" ∷ codes "else" ∷ codes "while" ∷ codes "mfence" ∷ codes "sfence"
    ∷ codes "flush" ∷ codes "flushopt" ∷ codes "cas" ∷ codes "true" ∷ codes "false" ∷ []

unfoldable pub is_reserved : List ℕ → Bool
is_reserved w = list_any (bytes_eq w) reserved

abbrev pub same_sign : Sign → Sign → Bool
same_sign = sameb signs.the_type

-- a word's bytes are text
abbrev pub IsText : Lexeme → Type 0
IsText l = l.kind ≡ kind.Word → IsUtf8 l.text

-- ---- what a token is in a phrase

pub data Item : Type 0 where
  sign : Sign → Item
  letter : ℕ → Item
  number : ℕ → Item
  word : List ℕ → Item
  location : ℕ → Item
  scalar : ℕ → Item

-- the token is that item: a name is a word that is declared and not reserved
abbrev pub Matches : NameTable → Item → Lexeme → Type 0
Matches names (sign s) l = l.kind ≡ kind.Sign s
Matches names (letter b) l = l.kind ≡ kind.Letter b
Matches names (number n) l = l.kind ≡ kind.Number n
Matches names (word w) l = (l.kind ≡ kind.Word) × (l.text ≡ w)
Matches names (location x) l = (l.kind ≡ kind.Word) × (is_reserved l.text ≡ false) × (find l.text names ≡ Some (place.Location x))
Matches names (scalar r) l = (l.kind ≡ kind.Word) × (is_reserved l.text ≡ false) × (find l.text names ≡ Some (place.Scalar r))

-- the next token at a place is that item, and the other place is the one after it
pub record Stands (names : NameTable) (item : Item) (from to : Cursor) : Type 0 where
  pub lexeme : Lexeme
  pub read : token from ≡ Ok lexeme
  pub matches : Matches names item lexeme
  pub behind : to ≡ after from

-- items, one after the other
abbrev pub Stand : NameTable → List Item → Cursor → Cursor → Type 0
Stand names [] from to = to ≡ from
Stand names (i ∷ is) from to = (mid : Cursor) × Stands names i from mid × Stand names is mid to
