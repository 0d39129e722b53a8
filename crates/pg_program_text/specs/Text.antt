-- What contracts see of the text of a thread.
use Rattle.std.specs.Prelude.{◌≡◌, ◌≢◌, map, Result, Ok, Err, MatchResult}
use Rattle.pg_lex.specs.declared.fault.TextFault.{TextFault}
use Rattle.pg_lex.specs.declared.fault.TextFault.TheVariants.{NoMemory}
use Rattle.pg_lex.specs.Lex.{Cursor}
use Rattle.pg_assertion.specs.Formula.{plain}
use Rattle.pg_program_text.specs.declared.thread.ThreadText.{ThreadText}
use Rattle.pg_program_text.specs.declared.thread.NotedStmt.{NotedStmt}
use Rattle.pg_program.specs.NameTable.{NameTable}
use Rattle.pg_program_text.specs.Thread.{Lines, Noted}
use Rattle.pg_program_text.specs.Grammar.{IsThreadText}

abbrev pub lines : ThreadText → Lines
lines t = record { stmts = t.stmts.items; notes = map plain t.notes.items }

abbrev pub noted : NotedStmt → Noted
noted n = record { stmt = n.stmt; notes = map plain n.notes.items }

-- the outcome, unless memory runs out
abbrev pub ReadsAt : Result (Lines × Cursor) TextFault → Result ThreadText TextFault → Cursor → Type 0
ReadsAt outcome (Ok t) new = outcome ≡ Ok (lines t, new)
ReadsAt outcome (Err e) new = e ≢ NoMemory → outcome ≡ Err e

-- the answer is this body, want of memory aside
abbrev pub Answers : Lines → Cursor → Result ThreadText TextFault → Cursor → Type 0
Answers l to r new = MatchResult r (λ t. (lines t ≡ l) × (new ≡ to)) (λ e. e ≡ NoMemory)

-- from a place there is at most one body to read
abbrev pub HasOneReading : Type 0
HasOneReading = (names : NameTable) (from a b : Cursor) (l m : Lines) → IsThreadText names from l a → IsThreadText names from m b → (l ≡ m) × (a ≡ b)
