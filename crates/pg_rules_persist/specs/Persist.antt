-- The persistency rules of a step: how what a crash may leave, and what it may leave once a thread has fenced, come of what was
-- before the step. They are given as clauses, in their order.
use Rattle.std.specs.Prelude.{ℕ, ◌<◌, List, [], ◌++◌, Option, Some, None, length}
use Rattle.pg_assertion.specs.declared.atom.ViewAtom.{ViewAtom}
use Rattle.pg_assertion.specs.declared.atom.ViewAtom.TheVariants.{Persist, Async}
use Rattle.pg_assertion.specs.Layout.{Sizes, sizes}
use Rattle.pg_program.specs.declared.point.Step.{Step}
use Rattle.pg_program.specs.declared.syntax.Stmt.{Stmt, out-Stmt}
use Rattle.pg_program.specs.declared.syntax.Act.{Act, out-Act}
use Rattle.pg_program.specs.declared.syntax.Act.TheOpen.{Act-F, Store, Cas, Mfence, Sfence, Flush, Flushopt}
use Rattle.pg_program.specs.NameTable.{NameTable}
use Rattle.pg_program.specs.Program.{ProgramTable, stmt_at}
use Rattle.pg_tables.specs.declared.clause.StepLiteral.{StepLiteral}
use Rattle.pg_tables.specs.Table.{per_thread, per_location, per_value}
use Rattle.pg_tables.specs.Shapes.{frame}
use Rattle.pg_rules_persist.specs.Rows.{store, fence, flush, flushopt, cas}

-- the row of each atom at an act of thread s
abbrev pub act_row : NameTable → ℕ → Act-F Act Stmt → ViewAtom → List (List StepLiteral)
act_row names s (Store x e) = store x
act_row names s (Cas r x e d) = cas s x
act_row names s Mfence = fence s
act_row names s Sfence = fence s
act_row names s (Flush x) = flush names s x
act_row names s (Flushopt x) = flushopt names s x
act_row names s act = frame

-- the rows of the atoms that speak of a crash, in the order of their numbers
abbrev pub persist_rows : Sizes → (ViewAtom → List (List StepLiteral)) → List (List StepLiteral)
persist_rows l row =
    per_location l (λ z. per_value l (λ v. row (Persist z v)))
    ++ per_thread l (λ t. per_location l (λ z. per_value l (λ v. row (Async t z v))))

-- those of the statement at a point, and none at the end of a thread
abbrev pub rules_of : Sizes → NameTable → ℕ → Option Stmt → List (List StepLiteral)
rules_of l names s (Some stmt) = persist_rows l (act_row names s (out-Act (out-Stmt stmt).act))
rules_of l names s None = []

-- the persistency rules of a step of a program
abbrev pub persist : ProgramTable → Step → List (List StepLiteral)
persist p step = rules_of (sizes p.names (length p.threads)) p.names step.thread (stmt_at p step.thread step.point)

-- the location of an act is one of the layout
abbrev pub IsActOver : Sizes → Act-F Act Stmt → Type 0
IsActOver l (Store x e) = x < l.locations
IsActOver l (Cas r x e d) = x < l.locations
IsActOver l (Flush x) = x < l.locations
IsActOver l (Flushopt x) = x < l.locations
IsActOver l act = Unit {0}
