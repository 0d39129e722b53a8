-- Reading what was printed gives the thread again.
use Rattle.std.specs.Prelude.{◌≡◌, ℕ, ◌+◌, ◌≤◌, List, ◌++◌, length, map, Ok}
use Rattle.pg_lex.specs.Lex.{Cursor, behind_gap}
use Rattle.pg_program.specs.NameTable.{NameTable}
use Rattle.pg_program.specs.declared.syntax.Stmt.{Stmt}
use Rattle.pg_assertion.specs.declared.atom.ViewAtom.{ViewAtom}
use Rattle.pg_assertion.specs.Formula.{Plain, with_atoms}
use Rattle.pg_assertion.specs.Atom.{raw_of}
use Rattle.pg_assertion_text.specs.SpellingLaws.{cursor}
use Rattle.pg_program_text.specs.Limits.{most_points}
use Rattle.pg_program_text.specs.Thread.{Lines, thread_at}
use Rattle.pg_program_text.specs.Grammar.{BeginsNone}
use Rattle.pg_program_text.specs.Spelling.{spell_thread}
use Rattle.pg_program_text.specs.SpellingLaws.{WholeThread}

-- the statements with their notes, as a text has them
abbrev pub lines_of : List Stmt → List (Plain ViewAtom) → Lines
lines_of ss notes = record { stmts = ss; notes = map (with_atoms raw_of) notes }

-- The reader gives the thread, and stands where only blanks are left of its text.
pub record IsReadAgain (names : NameTable) (ss : List Stmt) (notes : List (Plain ViewAtom)) (from behind : Cursor) : Type 0 where
  pub to : Cursor
  pub reads : thread_at names from ≡ Ok (lines_of ss notes, to)
  pub ends : behind_gap to ≡ behind_gap behind

-- at any place, where a token follows that begins no statement
abbrev pub ThreadIsReadAgain : NameTable → List Stmt → List (Plain ViewAtom) → Type 0
ThreadIsReadAgain names ss notes =
    (at : ℕ) (more : List ℕ) → WholeThread names ss notes → length notes ≤ most_points → BeginsNone names (cursor (at + length (spell_thread names ss notes)) more)
    → IsReadAgain names ss notes (cursor at (spell_thread names ss notes ++ more)) (cursor (at + length (spell_thread names ss notes)) more)

abbrev pub ThreadsAreReadAgain : Type 0
ThreadsAreReadAgain = (names : NameTable) (ss : List Stmt) (notes : List (Plain ViewAtom)) → ThreadIsReadAgain names ss notes
