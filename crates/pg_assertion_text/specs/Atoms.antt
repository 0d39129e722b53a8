-- Atoms: the tokens that each is spelled with, and how they are read.
use Rattle.std.specs.Prelude.{ℕ, ◌==◌, if◌then◌else◌, List, [], ◌∷◌, Result, Ok, Err}
use Rattle.pg_lex.specs.declared.token.Sign.TheVariants as s
use Rattle.pg_lex.specs.declared.token.TokenKind.{TokenKind}
use Rattle.pg_lex.specs.declared.token.TokenKind.TheVariants as kind
use Rattle.pg_lex.specs.declared.fault.TextFault.{TextFault}
use Rattle.pg_lex.specs.declared.fault.TextFault.TheVariants.{At}
use Rattle.pg_lex.specs.declared.fault.TextKind.{TextKind}
use Rattle.pg_lex.specs.declared.fault.TextKind.TheVariants.{Unexpected}
use Rattle.pg_lex.specs.Lex.{Cursor, Lexeme}
use Rattle.pg_program.specs.NameTable.{NameTable}
use Rattle.pg_program.specs.declared.name_table.NameRef.{NameRef}
use Rattle.pg_program.specs.declared.name_table.NameRef.TheVariants as place
use Rattle.pg_assertion.specs.declared.atom.RawAtom.{RawAtom}
use Rattle.pg_assertion.specs.declared.atom.RawAtom.TheVariants as raw
use Rattle.pg_assertion.specs.declared.atom.CrashAtom.{CrashAtom}
use Rattle.pg_assertion.specs.declared.atom.CrashAtom.TheVariants as crash
use Rattle.pg_assertion_text.specs.Words.{Item, sign, letter, number, location, scalar, Stand}
use Rattle.pg_assertion_text.specs.Input as input
use Rattle.pg_assertion_text.specs.Input.{Parser, ◌>>=◌, ◌>>◌, pure, refuse, allowed, next, node, expect, scalar_in, named}

-- ---- the grammar

-- what stands in the brackets of an atom, with a comma between two and the closing bracket at the end
abbrev pub listed : List Item → List Item
listed [] = sign s.Close ∷ []
listed (i ∷ []) = i ∷ sign s.Close ∷ []
listed (i ∷ j ∷ is) = i ∷ sign s.Comma ∷ listed (j ∷ is)

abbrev pub applied : ℕ → List Item → List Item
applied b is = letter b ∷ sign s.Open ∷ listed is

-- A C F L N O P R
abbrev pub raw_items : RawAtom → List Item
raw_items (raw.Scalar r k) = scalar r ∷ sign s.Equal ∷ number k ∷ []
raw_items (raw.Last x v) = applied 76 (location x ∷ number v ∷ [])
raw_items (raw.Read t x v) = applied 82 (number t ∷ location x ∷ number v ∷ [])
raw_items (raw.Persist x v) = applied 80 (location x ∷ number v ∷ [])
raw_items (raw.Async t x v) = applied 65 (number t ∷ location x ∷ number v ∷ [])
raw_items (raw.Then t x v y w) = applied 67 (number t ∷ location x ∷ number v ∷ location y ∷ number w ∷ [])
raw_items (raw.Newest t x) = applied 78 (number t ∷ location x ∷ [])
raw_items (raw.Ordered t x) = applied 79 (number t ∷ location x ∷ [])
raw_items (raw.Fenced t x) = applied 70 (number t ∷ location x ∷ [])

abbrev pub crash_items : CrashAtom → List Item
crash_items (crash.Scalar r k) = scalar r ∷ sign s.Equal ∷ number k ∷ []
crash_items (crash.Location x v) = location x ∷ sign s.Equal ∷ number v ∷ []

abbrev pub IsRaw : NameTable → Cursor → RawAtom → Cursor → Type 0
IsRaw names from a to = Stand names (raw_items a) from to

abbrev pub IsCrash : NameTable → Cursor → CrashAtom → Cursor → Type 0
IsCrash names from a to = Stand names (crash_items a) from to

-- ---- how they are read

-- `= k`
unfoldable pub equals : Parser ℕ
equals = expect s.Equal >> input.number

-- `x,v`
unfoldable pub cell : NameTable → Parser (ℕ × ℕ)
cell names = do
  x ← input.location names
  v ← (expect s.Comma >> input.number)
  pure (x, v)

-- `t,`
unfoldable pub thread : Parser ℕ
thread = do
  t ← input.number
  (expect s.Comma >> pure t)

-- `(x,v)`
unfoldable pub last : NameTable → Parser (ℕ × ℕ)
last names = do
  c ← (expect s.Open >> cell names)
  (expect s.Close >> pure c)

-- `(t,x)`
unfoldable pub seen : NameTable → Parser (ℕ × ℕ)
seen names = do
  t ← (expect s.Open >> thread)
  x ← input.location names
  (expect s.Close >> pure (t, x))

-- `(t,x,v)`
unfoldable pub read : NameTable → Parser (ℕ × (ℕ × ℕ))
read names = do
  t ← (expect s.Open >> thread)
  c ← cell names
  (expect s.Close >> pure (t, c))

-- `(t,x,v,y,w)`
unfoldable pub two_reads : NameTable → Parser (ℕ × (ℕ × ℕ) × (ℕ × ℕ))
two_reads names = do
  t ← (expect s.Open >> thread)
  c ← cell names
  d ← (expect s.Comma >> cell names)
  (expect s.Close >> pure (t, c, d))

-- what follows the letter of an atom
abbrev pub lettered : NameTable → ℕ → ℕ → Parser RawAtom
lettered names place b =
    if b == 76 then last names >>= (λ c. pure (raw.Last c.0 c.1))
    else (if b == 80 then last names >>= (λ c. pure (raw.Persist c.0 c.1))
    else (if b == 82 then read names >>= (λ a. pure (raw.Read a.0 a.1.0 a.1.1))
    else (if b == 65 then read names >>= (λ a. pure (raw.Async a.0 a.1.0 a.1.1))
    else (if b == 67 then two_reads names >>= (λ a. pure (raw.Then a.0 a.1.0 a.1.1 a.2.0 a.2.1))
    else (if b == 78 then seen names >>= (λ a. pure (raw.Newest a.0 a.1))
    else (if b == 79 then seen names >>= (λ a. pure (raw.Ordered a.0 a.1))
    else (if b == 70 then seen names >>= (λ a. pure (raw.Fenced a.0 a.1))
    else refuse place Unexpected)))))))

abbrev pub fault_at : ℕ → Result ℕ TextKind → Result ℕ TextFault
fault_at place (Ok r) = Ok r
fault_at place (Err why) = Err (At place why)

abbrev pub scalar_at : NameTable → Lexeme → Result ℕ TextFault
scalar_at names t = fault_at t.place (scalar_in (named names t))

abbrev pub scalar_atom : NameTable → Lexeme → Parser RawAtom
scalar_atom names t = do
  r ← allowed t.place (scalar_in (named names t))
  k ← (node t.place >> equals)
  pure (raw.Scalar r k)

abbrev pub raw_by : NameTable → Lexeme → TokenKind → Parser RawAtom
raw_by names t (kind.Letter b) = node t.place >> lettered names t.place b
raw_by names t kind.Word = scalar_atom names t
raw_by names t (kind.Number n) = scalar_atom names t
raw_by names t (kind.Sign z) = scalar_atom names t
raw_by names t kind.End = scalar_atom names t

-- an atom of an assertion
unfoldable pub raw_atom : NameTable → Parser RawAtom
raw_atom names = do
  t ← next
  raw_by names t t.kind

abbrev pub of_name : NameRef → ℕ → CrashAtom
of_name (place.Scalar r) k = crash.Scalar r k
of_name (place.Location x) v = crash.Location x v

-- an atom of a crash formula
unfoldable pub crash_atom : NameTable → Parser CrashAtom
crash_atom names = do
  t ← next
  r ← allowed t.place (named names t)
  k ← (node t.place >> equals)
  pure (of_name r k)
