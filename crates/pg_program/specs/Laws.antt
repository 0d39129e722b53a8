-- What holds of the graph of each thread, by its definition.
use Rattle.std.specs.Prelude.{◌≡◌, ℕ, ◌≤◌, List, length, map, All}
use Rattle.pg_program.specs.declared.syntax.Stmt.{Stmt}
use Rattle.pg_program.specs.declared.point.Step.{Step}
use Rattle.pg_program.specs.Block.{block}
use Rattle.pg_program.specs.Graph.{statements, thread_steps, branches}
use Rattle.pg_program.specs.Program.{ProgramTable, points, stmt_at, steps_at}

-- a thread has as many lists of steps as statements
abbrev pub EachStatementHasSteps : Type 0
EachStatementHasSteps = (t : ℕ) (ss : List Stmt) → length (thread_steps t ss) ≡ length (statements (block ss))

-- a point has the steps of its statement: none at the end, one at a statement, and yes and then no at a test
abbrev pub StepsAreOfStatements : Type 0
StepsAreOfStatements = (p : ProgramTable) (t k : ℕ) → map (λ s. s.branch) (steps_at p t k) ≡ branches (stmt_at p t k)

-- a step of point k of thread t, to one of the thread's n points
pub record LeadsWithin (t k n : ℕ) (s : Step) : Type 0 where
  pub thread : s.thread ≡ t
  pub point : s.point ≡ k
  pub from : 1 ≤ s.target
  pub to : s.target ≤ n

abbrev pub StepsLeadWithin : Type 0
StepsLeadWithin = (p : ProgramTable) (t k : ℕ) → 1 ≤ k → All (LeadsWithin t k (points p t)) (steps_at p t k)
