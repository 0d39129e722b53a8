-- What a text of an outline is read as, and the outline that is made of it.
use Rattle.std.specs.Prelude.{◌≡◌, List, map, None}
use Rattle.pg_program.specs.NameTable.{NameTable}
use Rattle.pg_program.specs.Program.{ProgramTable}
use Rattle.pg_program.specs.Fault as program
use Rattle.pg_assertion.specs.declared.atom.RawAtom.{RawAtom}
use Rattle.pg_assertion.specs.declared.atom.CrashAtom.{CrashAtom}
use Rattle.pg_assertion.specs.Formula.{Plain}
use Rattle.pg_program_text.specs.Thread.{Lines}
use Rattle.pg_outline.specs.Outline.{OutlineTable, Draft, draft_of}
use Rattle.pg_outline.specs.Fault as outline

-- the declared names, the precondition, the crash formula, and the body of each thread; a formula that is left out is `true`
pub record Source : Type 0 where
  pub names : NameTable
  pub pre : Plain RawAtom
  pub crash : Plain CrashAtom
  pub threads : List Lines

abbrev pub program_of : Source → ProgramTable
program_of s = record { names = s.names; threads = map (λ l. l.stmts) s.threads }

abbrev pub draft : Source → Draft
draft s = record { program = program_of s; pre = s.pre; crash = s.crash; notes = map (λ l. l.notes) s.threads }

-- the outline is that of the source, which has no fault
pub record IsMadeOf (s : Source) (o : OutlineTable) : Type 0 where
  pub parts : draft_of o ≡ draft s
  pub program : program.first_fault s.names (program_of s).threads ≡ None
  pub outline : outline.first_fault (draft s) ≡ None
