-- What holds of each body that stands in a text.
use Rattle.std.specs.Prelude.{◌≡◌, ◌+◌, ◌≤◌, List, length, map, All}
use Rattle.pg_lex.specs.Lex.{Cursor}
use Rattle.pg_program.specs.NameTable.{NameTable, IsNameTable}
use Rattle.pg_program.specs.Block.{block}
use Rattle.pg_program.specs.Graph.{size}
use Rattle.pg_program.specs.Program.{IsThread}
use Rattle.pg_assertion.specs.declared.atom.ViewAtom.{ViewAtom}
use Rattle.pg_assertion.specs.declared.atom.RawAtom.{RawAtom}
use Rattle.pg_assertion.specs.Atom.{RawDeclared, raw_of}
use Rattle.pg_assertion.specs.Formula.{Plain, AllAtoms, nodes, with_atoms}
use Rattle.pg_assertion_text.specs.Limits.{most_nodes}
use Rattle.pg_assertion_text.specs.Spelling.{AreNames}
use Rattle.pg_program_text.specs.Thread.{Lines}
use Rattle.pg_program_text.specs.Grammar.{IsThreadText}
use Rattle.pg_program_text.specs.SpellingLaws.{WholeThread}

-- Its statements are a thread over the names, as a program may have it, and it has a note for each point.
pub record IsNoted (names : NameTable) (l : Lines) : Type 0 where
  pub thread : IsThread names l.stmts
  pub notes : length l.notes ≡ size (block l.stmts) + 1

abbrev pub BodiesAreThreads : Type 0
BodiesAreThreads = (names : NameTable) (from to : Cursor) (l : Lines) → IsThreadText names from l to → IsNoted names l

-- Over names of the grammar it is within the limits of a text, with the assertions that its notes stand for: so it can be
-- printed, and what is printed is read again.
abbrev pub BodiesAreWhole : Type 0
BodiesAreWhole =
    (names : NameTable) (from to : Cursor) (l : Lines) (notes : List (Plain ViewAtom))
    → IsNameTable names → AreNames names → IsThreadText names from l to → map (with_atoms raw_of) notes ≡ l.notes
    → WholeThread names l.stmts notes

-- Its notes speak of declared names alone, and have few nodes.
pub record SpeakOfNames (names : NameTable) (notes : List (Plain RawAtom)) : Type 0 where
  pub declared : All (AllAtoms (RawDeclared names)) notes
  pub few : All (λ f. nodes f ≤ most_nodes) notes

abbrev pub TextsSpeakOfNames : Type 0
TextsSpeakOfNames = (names : NameTable) (from to : Cursor) (l : Lines) → IsThreadText names from l to → SpeakOfNames names l.notes
