-- What a contract sees of a `Program`: its names and the statements of its threads.
use Rattle.std.specs.Prelude.{◌≡◌, ℕ, ◌+◌, ◌-◌, ◌<◌, ◌≤◌, true, List, [], length, All, Option, None, slice_get, slice_index_or}
use Rattle.pg_program.specs.declared.syntax.Stmt.{Stmt, out-Stmt}
use Rattle.pg_program.specs.declared.point.Step.{Step}
use Rattle.pg_program.specs.Limits.{most_threads, most_points}
use Rattle.pg_program.specs.NameTable.{NameTable, is_auxiliary}
use Rattle.pg_program.specs.Block.{block}
use Rattle.pg_program.specs.Graph.{size, statements, thread_steps, is_test}
use Rattle.pg_program.specs.Fault.{first_fault}
use Rattle.pg_program.specs.Words.{scalars_of, locations_of, targets}

-- the names, and the statements of each thread in the order of the text
pub record ProgramTable : Type 0 where
  pub names : NameTable
  pub threads : List (List Stmt)

-- a statement over names: the scalars and locations in it are declared, its bracket assigns auxiliaries, and a test
-- has an empty bracket
pub record IsStmt (names : NameTable) (s : Stmt) : Type 0 where
  pub scalars : All (λ r. r < length names.scalars) (scalars_of s)
  pub locations : All (λ x. x < length names.locations) (locations_of s)
  pub targets : All (λ r. is_auxiliary names r ≡ true) (targets s)
  pub bare : is_test s ≡ true → (out-Stmt s).aux ≡ []

-- a thread over names, not too long: its points are one more than its statements
pub record IsThread (names : NameTable) (ss : List Stmt) : Type 0 where
  pub few : size (block ss) < most_points
  pub stmts : All (IsStmt names) (statements (block ss))

-- threads over names, one at least and not too many
pub record AreThreads (names : NameTable) (threads : List (List Stmt)) : Type 0 where
  pub some : 1 ≤ length threads
  pub few : length threads ≤ most_threads
  pub each : All (IsThread names) threads

-- a program is threads over its names, without a fault
pub record IsProgram (p : ProgramTable) : Type 0 where
  pub threads : AreThreads p.names p.threads
  pub faultless : first_fault p.names p.threads ≡ None

-- the statements of a thread, which is numbered from 1, with those of their blocks inside them
abbrev pub thread_of : ProgramTable → ℕ → List Stmt
thread_of p t = slice_index_or p.threads (t - 1) []

-- the number of a thread's points
abbrev pub points : ProgramTable → ℕ → ℕ
points p t = size (block (thread_of p t)) + 1

-- the statement at a point, which is numbered from 1
abbrev pub stmt_at : ProgramTable → ℕ → ℕ → Option Stmt
stmt_at p t k = slice_get (statements (block (thread_of p t))) (k - 1)

-- the steps from a point, none at the thread's end
abbrev pub steps_at : ProgramTable → ℕ → ℕ → List Step
steps_at p t k = slice_index_or (thread_steps t (thread_of p t)) (k - 1) []
