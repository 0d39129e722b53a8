-- An obligation speaks of threads and points of the program.
use Rattle.std.specs.Prelude.{ℕ, ◌≤◌, length}
use Rattle.pg_program.specs.declared.point.Step.{Step}
use Rattle.pg_program.specs.Program.{ProgramTable, points}
use Rattle.pg_obligations.specs.declared.obligation.Obligation.{Obligation}
use Rattle.pg_obligations.specs.declared.obligation.Obligation.TheVariants.{Fresh, Entry, EntryCrash, Local, Crash, Interfere}

-- k is a point of thread t; both are numbered from 1
pub record IsPoint (p : ProgramTable) (t k : ℕ) : Type 0 where
  pub thread_from : 1 ≤ t
  pub thread_to : t ≤ length p.threads
  pub point_from : 1 ≤ k
  pub point_to : k ≤ points p t

-- a step between two points of a thread
pub record IsStepOf (p : ProgramTable) (s : Step) : Type 0 where
  pub from : IsPoint p s.thread s.point
  pub to : IsPoint p s.thread s.target

abbrev pub IsPlaced : ProgramTable → Obligation → Type 0
IsPlaced p Fresh = Unit {0}
IsPlaced p (Entry t) = IsPoint p t 1
IsPlaced p EntryCrash = Unit {0}
IsPlaced p (Local s) = IsStepOf p s
IsPlaced p (Crash s) = IsStepOf p s
IsPlaced p (Interfere s at) = IsStepOf p s × IsPoint p at.thread at.point
