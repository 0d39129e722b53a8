-- What stands in a text is within the limits of a text: the canonical spelling of a formula that was read is read again.
use Rattle.std.specs.Prelude.{◌≡◌, ◌^◌, ◌<◌, ◌≤◌}
use Rattle.pg_lex.specs.Lex.{Cursor}
use Rattle.pg_program.specs.NameTable.{NameTable}
use Rattle.pg_assertion.specs.declared.atom.ViewAtom.{ViewAtom}
use Rattle.pg_assertion.specs.declared.atom.RawAtom.{RawAtom}
use Rattle.pg_assertion.specs.declared.atom.RawAtom.TheVariants as raw
use Rattle.pg_assertion.specs.declared.atom.CrashAtom.{CrashAtom}
use Rattle.pg_assertion.specs.Atom.{RawDeclared, raw_of}
use Rattle.pg_assertion.specs.Formula.{Plain, nodes, AllAtoms, with_atoms}
use Rattle.pg_assertion_text.specs.Limits.{most_nodes, most_open}
use Rattle.pg_assertion_text.specs.Atoms.{IsRaw, IsCrash}
use Rattle.pg_assertion_text.specs.Parsing.{IsFormula}
use Rattle.pg_assertion_text.specs.Spelling.{opens}
use Rattle.pg_assertion_text.specs.SpellingLaws.{IsWritable, IsWritableCrash}

-- the numbers of an atom, as a text has it, can be read
abbrev pub RawFits : RawAtom → Type 0
RawFits (raw.Scalar r k) = k < 2 ^ 32
RawFits (raw.Last x v) = v < 2 ^ 32
RawFits (raw.Read t x v) = (t < 2 ^ 32) × (v < 2 ^ 32)
RawFits (raw.Persist x v) = v < 2 ^ 32
RawFits (raw.Async t x v) = (t < 2 ^ 32) × (v < 2 ^ 32)
RawFits (raw.Then t x v y w) = (t < 2 ^ 32) × (v < 2 ^ 32) × (w < 2 ^ 32)
RawFits (raw.Newest t x) = t < 2 ^ 32
RawFits (raw.Ordered t x) = t < 2 ^ 32
RawFits (raw.Fenced t x) = t < 2 ^ 32

-- its names are declared, and its numbers fit
abbrev pub IsWritableRaw : NameTable → RawAtom → Type 0
IsWritableRaw names a = RawDeclared names a × RawFits a

-- The limits of a text are kept by a formula: its atoms can be written, and it has few levels and few nodes.
pub record IsWithin {T : Type 0} (Writable : NameTable → T → Type 0) (names : NameTable) (f : Plain T) : Type 0 where
  pub atoms : AllAtoms (Writable names) f
  pub shallow : opens f ≤ most_open
  pub few : nodes f ≤ most_nodes

-- Each formula that there is to read at a place keeps them.
abbrev pub FormulasAreWithin : Type 0
FormulasAreWithin = (names : NameTable) (from to : Cursor) (f : Plain RawAtom) → IsFormula IsRaw names from f to → IsWithin IsWritableRaw names f

abbrev pub CrashFormulasAreWithin : Type 0
CrashFormulasAreWithin = (names : NameTable) (from to : Cursor) (f : Plain CrashAtom) → IsFormula IsCrash names from f to → IsWithin IsWritableCrash names f

-- An assertion keeps them where the formula that a text has for it does.
abbrev pub AssertionsAreWithin : Type 0
AssertionsAreWithin =
    (names : NameTable) (f : Plain RawAtom) (g : Plain ViewAtom) → with_atoms raw_of g ≡ f → IsWithin IsWritableRaw names f → IsWithin IsWritable names g
