-- Reading what was printed gives the formula again.
use Rattle.std.specs.Prelude.{◌≡◌, ℕ, ◌+◌, ◌≤◌, List, [], ◌++◌, length, Ok}
use Rattle.pg_program.specs.NameTable.{NameTable, IsNameTable}
use Rattle.pg_assertion.specs.declared.atom.ViewAtom.{ViewAtom}
use Rattle.pg_assertion.specs.declared.atom.CrashAtom.{CrashAtom}
use Rattle.pg_assertion.specs.Formula.{Plain, nodes, AllAtoms, with_atoms}
use Rattle.pg_assertion_text.specs.Limits.{most_nodes, most_open}
use Rattle.pg_assertion_text.specs.Atoms.{raw_atom, crash_atom}
use Rattle.pg_assertion_text.specs.Parsing.{formula_at}
use Rattle.pg_assertion_text.specs.Follows.{Stops}
use Rattle.pg_assertion_text.specs.Spelling.{AreNames, Ends, spell, spell_atom, spell_crash, opens}
use Rattle.pg_assertion.specs.Atom.{raw_of}
use Rattle.pg_assertion_text.specs.SpellingLaws.{IsWritable, IsWritableCrash, cursor}

-- The limits of a text are kept: the names are names of the grammar, those of the formula are declared, its numbers can be
-- read, and it has few nodes and few levels.
pub record IsWhole {T : Type 0} (Writable : NameTable → T → Type 0) (names : NameTable) (f : Plain T) : Type 0 where
  pub table : IsNameTable names
  pub names_are : AreNames names
  pub atoms : AllAtoms (Writable names) f
  pub shallow : opens f ≤ most_open
  pub few : nodes f ≤ most_nodes

-- at any place, where a token follows that no formula goes on with
abbrev pub FormulasAreReadAgain : Type 0
FormulasAreReadAgain =
    (names : NameTable) (f : Plain ViewAtom) (at : ℕ) (more : List ℕ) → IsWhole IsWritable names f → Ends more
    → Stops (cursor (at + length (spell (spell_atom names) f)) more)
    → formula_at raw_atom names (cursor at (spell (spell_atom names) f ++ more)) ≡ Ok (with_atoms raw_of f, cursor (at + length (spell (spell_atom names) f)) more)

abbrev pub CrashFormulasAreReadAgain : Type 0
CrashFormulasAreReadAgain =
    (names : NameTable) (f : Plain CrashAtom) (at : ℕ) (more : List ℕ) → IsWhole IsWritableCrash names f → Ends more
    → Stops (cursor (at + length (spell (spell_crash names) f)) more)
    → formula_at crash_atom names (cursor at (spell (spell_crash names) f ++ more)) ≡ Ok (f, cursor (at + length (spell (spell_crash names) f)) more)

-- as a whole text
abbrev pub IsReadAgain : NameTable → Plain ViewAtom → Type 0
IsReadAgain names f =
    IsWhole IsWritable names f
    → formula_at raw_atom names (cursor 0 (spell (spell_atom names) f)) ≡ Ok (with_atoms raw_of f, cursor (length (spell (spell_atom names) f)) [])

abbrev pub IsCrashReadAgain : NameTable → Plain CrashAtom → Type 0
IsCrashReadAgain names f =
    IsWhole IsWritableCrash names f
    → formula_at crash_atom names (cursor 0 (spell (spell_crash names) f)) ≡ Ok (f, cursor (length (spell (spell_crash names) f)) [])
