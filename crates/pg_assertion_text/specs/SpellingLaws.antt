-- The law of spelling: what a formula is spelled with is in the grammar of formulas, and stands for that formula.
use Rattle.std.specs.Prelude.{ℕ, ◌+◌, ◌≤◌, List, ◌++◌, length}
use Rattle.pg_lex.specs.Lex.{Cursor}
use Rattle.pg_program.specs.NameTable.{NameTable, IsNameTable}
use Rattle.pg_assertion.specs.declared.atom.ViewAtom.{ViewAtom}
use Rattle.pg_assertion.specs.declared.atom.CrashAtom.{CrashAtom}
use Rattle.pg_assertion.specs.Formula.{Plain, AllAtoms, with_atoms}
use Rattle.pg_assertion_text.specs.Atoms.{IsRaw, IsCrash}
use Rattle.pg_assertion_text.specs.Grammar.{Is, formula}
use Rattle.pg_assertion_text.specs.Spelling.{AreNames, Ends, NumbersFit, CrashFits, spell, spell_atom, spell_crash, opens}
use Rattle.pg_assertion.specs.Atom.{NamesDeclared, CrashDeclared, raw_of}

abbrev pub cursor : ℕ → List ℕ → Cursor
cursor at rest = record { at = at; rest = rest }

-- what can be read again: its names are declared, and its numbers fit
abbrev pub IsWritable : NameTable → ViewAtom → Type 0
IsWritable names a = NamesDeclared names a × NumbersFit a

abbrev pub IsWritableCrash : NameTable → CrashAtom → Type 0
IsWritableCrash names a = CrashDeclared names a × CrashFits a

-- After the spelling there may stand what no word goes on with.
abbrev pub SpellingStands : Type 0
SpellingStands =
    (names : NameTable) (f : Plain ViewAtom) (n at : ℕ) (more : List ℕ)
    → IsNameTable names → AreNames names → AllAtoms (IsWritable names) f → opens f ≤ n → Ends more
    → Is names (IsRaw names) formula n (cursor at (spell (spell_atom names) f ++ more)) (with_atoms raw_of f) (cursor (at + length (spell (spell_atom names) f)) more)

abbrev pub CrashSpellingStands : Type 0
CrashSpellingStands =
    (names : NameTable) (f : Plain CrashAtom) (n at : ℕ) (more : List ℕ)
    → IsNameTable names → AreNames names → AllAtoms (IsWritableCrash names) f → opens f ≤ n → Ends more
    → Is names (IsCrash names) formula n (cursor at (spell (spell_crash names) f ++ more)) f (cursor (at + length (spell (spell_crash names) f)) more)
