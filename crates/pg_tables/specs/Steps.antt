-- What a table of a step is over: a step of a program, and the cache lines of its locations.
use Rattle.std.specs.Prelude.{◌≡◌, ℕ, ◌≤◌, ◌==◌, Bool, Some, length, slice_index}
use Rattle.pg_program.specs.declared.point.Step.{Step}
use Rattle.pg_program.specs.Graph.{step_of}
use Rattle.pg_program.specs.NameTable.{NameTable, lines}
use Rattle.pg_program.specs.Program.{ProgramTable, points, steps_at}

-- a step of the program: from a point of one of its threads
pub record IsStepOf (p : ProgramTable) (step : Step) : Type 0 where
  pub thread : (1 ≤ step.thread) × (step.thread ≤ length p.threads)
  pub point : (1 ≤ step.point) × (step.point ≤ points p step.thread)
  pub leads : step_of step.branch (steps_at p step.thread step.point) ≡ Some step

-- the locations stand on the same cache line
abbrev pub same_line : NameTable → ℕ → ℕ → Bool
same_line names x z = slice_index (lines names) z == slice_index (lines names) x
