-- What is answered of three files: an outline, a schedule and a question.
use Rattle.std.specs.Prelude.{◌≡◌, ℕ, List, Ok}
use Rattle.pg_lex.specs.Lex.{Cursor, start}
use Rattle.pg_program.specs.Program.{ProgramTable}
use Rattle.pg_assertion.specs.declared.atom.ViewAtom.{ViewAtom}
use Rattle.pg_assertion.specs.Atom.{raw_of}
use Rattle.pg_assertion.specs.Formula.{Plain, with_atoms}
use Rattle.pg_assertion_text.specs.Atoms.{IsRaw}
use Rattle.pg_assertion_text.specs.Parsing.{IsFormula}
use Rattle.pg_outline.specs.Outline.{OutlineTable}
use Rattle.pg_outline_text.specs.Text.{StandsFor}
use Rattle.pg_schedule.specs.Schedule.{ScheduleTable}
use Rattle.pg_schedule.specs.Reading as reading
use Rattle.pg_walk.specs.Told.{IsWalk}

-- the most bytes that a file may have
abbrev pub longest : ℕ
longest = 1048576

-- the text begins with a formula over the names of the program, which is this assertion
abbrev pub IsAsked : ProgramTable → List ℕ → Plain ViewAtom → Type 0
IsAsked p text f = (to : Cursor) × IsFormula IsRaw p.names (start text) (with_atoms raw_of f) to

-- on a program: this is told of the walk of the schedule, about the question
pub record IsAnswerOn (p : ProgramTable) (schedule question told : List ℕ) : Type 0 where
  pub lines : ScheduleTable
  pub f : Plain ViewAtom
  pub schedule_is : reading.schedule schedule ≡ Ok lines
  pub asked : IsAsked p question f
  pub walk : IsWalk p f lines told

-- on the program of an outline
abbrev pub IsAnswer : List ℕ → List ℕ → List ℕ → List ℕ → Type 0
IsAnswer outline schedule question told = (o : OutlineTable) × StandsFor outline o × IsAnswerOn o.program schedule question told
