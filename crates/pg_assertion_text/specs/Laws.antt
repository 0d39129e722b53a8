-- What a kind of atom owes, so that formulas over it are read by the grammar.
use Rattle.std.specs.Prelude.{◌≡◌, ◌+◌, ◌-◌, ◌<◌, Ok}
use Rattle.pg_lex.specs.Lex.{Cursor, Lexeme, token}
use Rattle.pg_program.specs.NameTable.{NameTable}
use Rattle.pg_assertion_text.specs.Input.{Input, Parser}
use Rattle.pg_assertion_text.specs.declared.formula.Opening.TheVariants.{Atom}
use Rattle.pg_assertion_text.specs.Reading.{start}

-- what is read stands there, and is one node
abbrev pub FindsAtoms : {T : Type 0} → (NameTable → Parser T) → (NameTable → Cursor → T → Cursor → Type 0) → Type 0
FindsAtoms {T} read stands =
    (names : NameTable) (i j : Input) (a : T) → read names i ≡ Ok (a, j) → stands names i.cursor a j.cursor × (i.room ≡ j.room + 1)

-- what stands there is read, where one more node may come
abbrev pub ReadsAtoms : {T : Type 0} → (NameTable → Parser T) → (NameTable → Cursor → T → Cursor → Type 0) → Type 0
ReadsAtoms {T} read stands =
    (names : NameTable) (i : Input) (a : T) (to : Cursor) → stands names i.cursor a to → 0 < i.room
    → read names i ≡ Ok (a, record { cursor = to; room = i.room - 1 })

-- the token at a place begins an atom, and nothing else
pub record BeginsAtom (c : Cursor) : Type 0 where
  pub lexeme : Lexeme
  pub read : token c ≡ Ok lexeme
  pub begins : start lexeme ≡ Atom

-- an atom begins as no other operand does
abbrev pub BeginsAtoms : {T : Type 0} → (NameTable → Cursor → T → Cursor → Type 0) → Type 0
BeginsAtoms {T} stands = (names : NameTable) (from to : Cursor) (a : T) → stands names from a to → BeginsAtom from
