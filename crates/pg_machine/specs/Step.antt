-- Steps: what an event does to a state. Each statement has its row.
use Rattle.std.specs.Prelude.{◌≡◌, ◌≢◌, ℕ, ◌-◌, ◌≤◌, true, List, [], ◌∷◌, length, Option, Some, None, slice_index_or, slice_set, if◌then◌else◌}
use Rattle.pg_program.specs.declared.syntax.AuxAssign.{AuxAssign}
use Rattle.pg_program.specs.declared.syntax.Stmt.{Stmt, out-Stmt}
use Rattle.pg_program.specs.declared.syntax.Act.{Act, out-Act}
use Rattle.pg_program.specs.declared.syntax.Act.TheOpen.{Act-F, Assign, Store, Load, Cas, Mfence, Sfence, Flush, Flushopt, If, While}
use Rattle.pg_program.specs.declared.point.Branch.{Branch}
use Rattle.pg_program.specs.declared.point.Branch.TheVariants.{Plain, Yes, No}
use Rattle.pg_program.specs.Expr.{value, test_holds}
use Rattle.pg_program.specs.declared.point.Step.{Step}
use Rattle.pg_program.specs.Graph.{step_of}
use Rattle.pg_program.specs.Program.{ProgramTable, IsProgram, stmt_at, steps_at}
use Rattle.pg_machine.specs.declared.event.Event.{Event}
use Rattle.pg_machine.specs.Memory.{value_at, last_value}
use Rattle.pg_machine.specs.State.{Views, State, IsWellFormed, point_of}
use Rattle.pg_machine.specs.Moves.{Seen, can_read, stored, loaded, fenced, store_fenced, flushed, flush_begun, swapped, missed}

-- what an act leaves in the memory, in the views of its thread, and in the scalars
pub record Left : Type 0 where
  pub seen : Seen
  pub scalars : List ℕ

abbrev pub leaves : Seen → List ℕ → Left
leaves n scalars = record { seen = n; scalars = scalars }

-- The row of each act, with the position that the event chooses: where it may be taken, and what it leaves. A load may
-- read at any position that the thread may read at. A cas without a choice succeeds: the last value is the expected one.
-- A cas with a choice fails, also where the last value is the expected one: it reads another value, at a position that the
-- thread may read at after an `mfence`. All expressions have their values over the scalars before the step, modulo d.
abbrev pub Row : ℕ → Seen → List ℕ → Act-F Act Stmt → Option ℕ → Left → Type 0
Row d n r (Assign q e) None left = left ≡ leaves n (slice_set r q (value r d e))
Row d n r (Store x e) None left = left ≡ leaves (stored n x (value r d e)) r
Row d n r (Load q x) (Some p) left = (can_read n x p ≡ true) × (left ≡ leaves (loaded n x p) (slice_set r q (value_at n.memory x p)))
Row d n r (Cas q x e f) None left =
    (last_value n.memory x ≡ value r d e) × (left ≡ leaves (swapped n x (value r d f)) (slice_set r q (value r d e)))
Row d n r (Cas q x e f) (Some p) left =
    (can_read (fenced n) x p ≡ true) × (value_at n.memory x p ≢ value r d e) × (left ≡ leaves (missed n x p) (slice_set r q (value_at n.memory x p)))
Row d n r Mfence None left = left ≡ leaves (fenced n) r
Row d n r Sfence None left = left ≡ leaves (store_fenced n) r
Row d n r (Flush x) None left = left ≡ leaves (flushed n x) r
Row d n r (Flushopt x) None left = left ≡ leaves (flush_begun n x) r
Row d n r (If test a b) None left = left ≡ leaves n r
Row d n r (While test a) None left = left ≡ leaves n r
Row d n r act choice left = ⊥

-- the branch that is taken: a test takes that of its truth
abbrev pub branch_taken : ℕ → List ℕ → Act-F Act Stmt → Branch
branch_taken d r (If test a b) = if test_holds r d test then Yes else No
branch_taken d r (While test a) = if test_holds r d test then Yes else No
branch_taken d r act = Plain

-- A bracket's assignments take effect together, with the statement: each expression has its value over the scalars that
-- the statement's act leaves. An act assigns no auxiliary, so these are the registers after the statement, and the
-- auxiliaries before it.
abbrev pub assigned : ℕ → List ℕ → List AuxAssign → List ℕ → List ℕ
assigned d seen [] r = r
assigned d seen (a ∷ rest) r = assigned d seen rest (slice_set r a.target (value seen d a.expr))

abbrev pub bracket_done : ℕ → List AuxAssign → List ℕ → List ℕ
bracket_done d bracket r = assigned d r bracket r

-- the views of thread t, and what it sees
abbrev pub views_of : State → ℕ → Views
views_of s t = slice_index_or s.views (t - 1) (record { coh = []; vrn = 0; vpr = 0; vpa = []; vpc = [] })

abbrev pub seen_by : State → ℕ → Seen
seen_by s t = record { memory = s.memory; views = views_of s t }

-- the state in which thread t left these, and stands at point k
abbrev pub moved : State → ℕ → Left → ℕ → State
moved s t left k = record {
  memory = left.seen.memory;
  views = slice_set s.views (t - 1) left.seen.views;
  scalars = left.scalars;
  points = slice_set s.points (t - 1) k;
}

abbrev pub act_of : Stmt → Act-F Act Stmt
act_of stmt = out-Act (out-Stmt stmt).act

abbrev pub bracket_of : Stmt → List AuxAssign
bracket_of stmt = (out-Stmt stmt).aux

-- The event's thread is the program's.
abbrev pub HasThread : ProgramTable → Event → Type 0
HasThread p e = (1 ≤ e.thread) × (e.thread ≤ length p.threads)

-- The event's thread has a statement at its point, and takes this one of the steps from there, that of the branch that is
-- taken. The statement's act leaves what its row says, the bracket takes effect with it, and the thread goes where the step leads.
pub record IsStepThrough (p : ProgramTable) (s : State) (e : Event) (step : Step) (next : State) : Type 0 where
  pub thread : HasThread p e
  pub stmt : Stmt
  pub stands : stmt_at p e.thread (point_of s e.thread) ≡ Some stmt
  pub left : Left
  pub row : Row p.names.domain (seen_by s e.thread) s.scalars (act_of stmt) e.choice left
  pub taken : step_of (branch_taken p.names.domain s.scalars (act_of stmt)) (steps_at p e.thread (point_of s e.thread)) ≡ Some step
  pub becomes : next ≡ moved s e.thread (record left { scalars = bracket_done p.names.domain (bracket_of stmt) left.scalars }) step.target

-- the event leads to the next state through some step of the program
abbrev pub IsStep : ProgramTable → State → Event → State → Type 0
IsStep p s e next = (step : Step) × IsStepThrough p s e step next

-- an event leads a state to one next state at most
abbrev pub HasOneStep : Type 0
HasOneStep = (p : ProgramTable) (s : State) (e : Event) (a b : State) → IsStep p s e a → IsStep p s e b → a ≡ b

-- a step of a well-formed program keeps a state well formed
abbrev pub StepKeepsWellFormed : Type 0
StepKeepsWellFormed =
    (p : ProgramTable) (s : State) (e : Event) (next : State) → IsProgram p → IsWellFormed p s → IsStep p s e next → IsWellFormed p next
