-- What the obligations of a program are of.
use Rattle.std.specs.Prelude.{ℕ, ◌≤◌, length, Option, Some, None}
use Rattle.pg_program.specs.declared.point.Step.{Step}
use Rattle.pg_program.specs.Program.{ProgramTable, points}
use Rattle.pg_tables.specs.Steps.{IsStepOf}
use Rattle.pg_obligations.specs.declared.obligation.Obligation.{Obligation}
use Rattle.pg_obligations.specs.declared.obligation.Obligation.TheVariants.{Fresh, Entry, EntryCrash, Local, Crash, Interfere}

-- a thread of the program, and a point of it; both are numbered from 1
pub record IsPointOf (p : ProgramTable) (t k : ℕ) : Type 0 where
  pub thread : (1 ≤ t) × (t ≤ length p.threads)
  pub point : (1 ≤ k) × (k ≤ points p t)

-- a step of the program, which leads to a point of its thread
pub record LeadsOn (p : ProgramTable) (step : Step) : Type 0 where
  pub is : IsStepOf p step
  pub target : IsPointOf p step.thread step.target

-- an obligation speaks of threads, points and steps of the program
abbrev pub IsObligationOf : ProgramTable → Obligation → Type 0
IsObligationOf p Fresh = Unit {0}
IsObligationOf p (Entry t) = IsPointOf p t 1
IsObligationOf p EntryCrash = Unit {0}
IsObligationOf p (Local step) = LeadsOn p step
IsObligationOf p (Crash step) = LeadsOn p step
IsObligationOf p (Interfere step at) = LeadsOn p step × IsPointOf p at.thread at.point

-- the step of an obligation, if it has one
abbrev pub step_in : Obligation → Option Step
step_in (Local step) = Some step
step_in (Crash step) = Some step
step_in (Interfere step at) = Some step
step_in ob = None
