-- The laws of the canonical text: it stands for its outline, and each outline that a text stands for can be written so.
use Rattle.std.specs.Prelude.{◌≡◌, ℕ, ◌≤◌, List, [], ◌∷◌, length}
use Rattle.pg_program.specs.declared.syntax.Stmt.{Stmt}
use Rattle.pg_program.specs.NameTable.{NameTable}
use Rattle.pg_assertion.specs.declared.atom.ViewAtom.{ViewAtom}
use Rattle.pg_assertion.specs.Formula.{Plain}
use Rattle.pg_assertion_text.specs.Spelling.{AreNames}
use Rattle.pg_assertion_text.specs.SpellingLaws.{IsWritable, IsWritableCrash}
use Rattle.pg_assertion_text.specs.Within.{IsWithin}
use Rattle.pg_program_text.specs.Limits.{most_points}
use Rattle.pg_program_text.specs.SpellingLaws.{WholeThread}
use Rattle.pg_outline.specs.Outline.{OutlineTable}
use Rattle.pg_outline.specs.Made.{IsOutline}
use Rattle.pg_outline_text.specs.Limits.{known_version}
use Rattle.pg_outline_text.specs.Spelling.{spell_outline}
use Rattle.pg_outline_text.specs.Text.{StandsFor}

-- a thread within the limits of a text
pub record FitsThread (names : NameTable) (ss : List Stmt) (notes : List (Plain ViewAtom)) : Type 0 where
  pub whole : WholeThread names ss notes
  pub few : length notes ≤ most_points

abbrev pub FitThreads : NameTable → List (List Stmt) → List (List (Plain ViewAtom)) → Type 0
FitThreads names [] [] = Unit {0}
FitThreads names [] (ns ∷ notes) = ⊥
FitThreads names (ss ∷ threads) [] = ⊥
FitThreads names (ss ∷ threads) (ns ∷ notes) = FitsThread names ss ns × FitThreads names threads notes

-- An outline within the limits of a text: it is of the version of a text, its names are names of the grammar, and its formulas and
-- threads keep their limits.
pub record IsWritableOutline (o : OutlineTable) : Type 0 where
  pub version : o.program.names.version ≡ known_version
  pub names_are : AreNames o.program.names
  pub pre : IsWithin IsWritable o.program.names o.pre
  pub crash : IsWithin IsWritableCrash o.program.names o.crash
  pub threads : FitThreads o.program.names o.program.threads o.notes

-- the canonical text of such an outline stands for it
abbrev pub CanonicalTextStands : Type 0
CanonicalTextStands = (o : OutlineTable) → IsOutline o → IsWritableOutline o → StandsFor (spell_outline o) o

-- each outline that a text stands for is one of these
abbrev pub WhatStandsIsWritable : Type 0
WhatStandsIsWritable = (bytes : List ℕ) (o : OutlineTable) → StandsFor bytes o → IsWritableOutline o
