-- What a reader of phrases moves along, and the steps that each phrase is made of.
use Rattle.std.specs.Prelude.{◌≡◌, ◌≢◌, ℕ, ◌-◌, ◌==◌, Bool, true, false, if◌then◌else◌, List, Option, Some, None, Result, Ok, Err, refl}
use Rattle.std.specs.Coded.{Coded, code_by, coded×, coded_ℕ}
use Rattle.pg_lex.specs.declared.token.Sign.{Sign}
use Rattle.pg_lex.specs.declared.token.TokenKind.{TokenKind}
use Rattle.pg_lex.specs.declared.token.TokenKind.TheVariants as kind
use Rattle.pg_lex.specs.declared.fault.TextFault.{TextFault}
use Rattle.pg_lex.specs.declared.fault.TextFault.TheVariants.{At, NoMemory}
use Rattle.pg_lex.specs.declared.fault.TextKind.{TextKind}
use Rattle.pg_lex.specs.declared.fault.TextKind.TheVariants.{Unexpected, UnknownName, TooMany}
use Rattle.pg_lex.specs.Lex.{Cursor, cursor_code, Lexeme, token, after}
use Rattle.pg_program.specs.NameTable.{NameTable, find}
use Rattle.pg_program.specs.declared.name_table.NameRef.{NameRef}
use Rattle.pg_program.specs.declared.name_table.NameRef.TheVariants as place
use Rattle.pg_assertion_text.specs.Words.{is_reserved, same_sign}

-- the place after what was read, and how many nodes may still come
pub record Input : Type 0 where
  pub cursor : Cursor
  pub room : ℕ

abbrev pub input_code : Coded Input
input_code = code_by (Cursor × ℕ) (coded× cursor_code coded_ℕ) (λ i. (i.cursor, i.room)) (λ p. record { cursor = p.0; room = p.1 }) (λ _. refl)

-- ---- parsers: what is read and what is left to read, or the first fault

abbrev pub Outcome : Type 0 → Type 0
Outcome A = Result (A × Input) TextFault

abbrev pub Parser : Type 0 → Type 0
Parser A = Input → Outcome A

abbrev pub and_then : {A B : Type 0} → Outcome A → (A → Parser B) → Outcome B
and_then (Ok p) f = f p.0 p.1
and_then (Err e) f = Err e

infixl 10 ◌>>=◌
abbrev pub ◌>>=◌ : {A B : Type 0} → Parser A → (A → Parser B) → Parser B
p >>= f = λ i. and_then (p i) f

infixl 10 ◌>>◌
abbrev pub ◌>>◌ : {A B : Type 0} → Parser A → Parser B → Parser B
p >> q = p >>= (λ _. q)

abbrev pub pure : {A : Type 0} → A → Parser A
pure a = λ i. Ok (a, i)

abbrev pub refuse : {A : Type 0} → ℕ → TextKind → Parser A
refuse place why = λ i. Err (At place why)

-- a value, or a fault at this place
abbrev pub allowed : {A : Type 0} → ℕ → Result A TextKind → Parser A
allowed place (Ok a) = pure a
allowed place (Err why) = refuse place why

-- ---- the next token

abbrev pub seen : Input → Result Lexeme TextFault → Outcome Lexeme
seen i (Ok l) = Ok (l, i)
seen i (Err e) = Err e

-- the next token, which stays
unfoldable pub peek : Parser Lexeme
peek i = seen i (token i.cursor)

-- the next token, which is taken
unfoldable pub next : Parser Lexeme
next i = seen (record i { cursor = after i.cursor }) (token i.cursor)

-- one more node, whose token is at this place
unfoldable pub node : ℕ → Parser (Unit {0})
node place i = if i.room == 0 then Err (At place TooMany) else Ok (tt, record i { room = i.room - 1 })

abbrev pub is_sign : Sign → TokenKind → Bool
is_sign s (kind.Sign t) = same_sign t s
is_sign s kind.Word = false
is_sign s (kind.Number n) = false
is_sign s (kind.Letter b) = false
is_sign s kind.End = false

-- whether the phrase goes on with this sign, which then is taken and is a node
unfoldable pub goes_on : Sign → Parser Bool
goes_on s = do
  t ← peek
  if is_sign s t.kind then (node t.place >> next >> pure true) else pure false

-- a sign that has to come
unfoldable pub expect : Sign → Parser (Unit {0})
expect s = do
  t ← next
  if is_sign s t.kind then pure tt else refuse t.place Unexpected

abbrev pub number_in : TokenKind → Result ℕ TextKind
number_in (kind.Number n) = Ok n
number_in kind.Word = Err Unexpected
number_in (kind.Letter b) = Err Unexpected
number_in (kind.Sign s) = Err Unexpected
number_in kind.End = Err Unexpected

unfoldable pub number : Parser ℕ
number = do
  t ← next
  allowed t.place (number_in t.kind)

-- ---- names

abbrev pub declared : Option NameRef → Result NameRef TextKind
declared (Some r) = Ok r
declared None = Err UnknownName

-- what a token stands for where a declared name may stand
abbrev pub named_by : NameTable → TokenKind → List ℕ → Result NameRef TextKind
named_by names kind.Word text = if is_reserved text then Err Unexpected else declared (find text names)
named_by names (kind.Number n) text = Err Unexpected
named_by names (kind.Letter b) text = Err Unexpected
named_by names (kind.Sign s) text = Err Unexpected
named_by names kind.End text = Err Unexpected

unfoldable pub named : NameTable → Lexeme → Result NameRef TextKind
named names t = named_by names t.kind t.text

abbrev pub location_in : Result NameRef TextKind → Result ℕ TextKind
location_in (Ok (place.Location x)) = Ok x
location_in (Ok (place.Scalar r)) = Err Unexpected
location_in (Err why) = Err why

abbrev pub scalar_in : Result NameRef TextKind → Result ℕ TextKind
scalar_in (Ok (place.Scalar r)) = Ok r
scalar_in (Ok (place.Location x)) = Err Unexpected
scalar_in (Err why) = Err why

unfoldable pub location : NameTable → Parser ℕ
location names = do
  t ← next
  allowed t.place (location_in (named names t))

-- ---- what a function that reads ensures

-- the outcome and nothing else
abbrev pub Does : {R A : Type 0} → (R → A) → Outcome A → Result R TextFault → Input → Type 0
Does view outcome (Ok r) new = outcome ≡ Ok (view r, new)
Does view outcome (Err e) new = outcome ≡ Err e

-- the outcome, unless memory runs out
abbrev pub Reads : {R A : Type 0} → (R → A) → Outcome A → Result R TextFault → Input → Type 0
Reads view outcome (Ok r) new = outcome ≡ Ok (view r, new)
Reads view outcome (Err e) new = e ≢ NoMemory → outcome ≡ Err e
