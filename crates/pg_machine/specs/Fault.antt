-- Faults: why a state has no step by an event. Each fault stands where its condition holds and no earlier one does.
use Rattle.std.specs.Prelude.{◌≡◌, ◌≢◌, ℕ, ◌<◌, ◌≤◌, ◌⊎◌, true, false, List, length, Option, Some, None}
use Rattle.pg_program.specs.declared.syntax.Stmt.{Stmt}
use Rattle.pg_program.specs.declared.syntax.Act.{Act}
use Rattle.pg_program.specs.declared.syntax.Act.TheOpen.{Act-F, Store, Load, Cas}
use Rattle.pg_program.specs.Expr.{value}
use Rattle.pg_program.specs.Program.{ProgramTable, stmt_at}
use Rattle.pg_machine.specs.declared.event.Event.{Event}
use Rattle.pg_machine.specs.declared.fault.StepFault.{StepFault}
use Rattle.pg_machine.specs.declared.fault.StepFault.TheVariants.{NoThread, Ended, NoChoice, ChoiceMissing, NotAPosition, BelowCoherence, Hidden, CasMustDiffer, CasNotLast, MessagesFull}
use Rattle.pg_machine.specs.Limits.{most_messages}
use Rattle.pg_machine.specs.Memory.{Memory, is_at, hides, value_at, last_value}
use Rattle.pg_machine.specs.State.{State, coh_of, maxcoh, point_of}
use Rattle.pg_machine.specs.Moves.{Seen, can_read, fenced}
use Rattle.pg_machine.specs.Step.{HasThread, seen_by, act_of, IsStep}

-- the least position in (p, n] with a message to x
pub record IsLeastHiding (ms : List (ℕ × ℕ)) (x p n later : ℕ) : Type 0 where
  pub hiding : hides ms x p n later ≡ true
  pub least : (q : ℕ) → q < later → hides ms x p n q ≡ false

-- the faults of a choice of p for x, which a message to x in (p, bound] hides
abbrev pub ChoiceFault : Seen → ℕ → ℕ → ℕ → StepFault → Type 0
ChoiceFault n x p bound (NotAPosition q) = (q ≡ p) × (is_at n.memory.messages x p ≡ false)
ChoiceFault n x p bound (BelowCoherence q c) = (q ≡ p) × (c ≡ coh_of n.views x) × (is_at n.memory.messages x p ≡ true) × (p < coh_of n.views x)
ChoiceFault n x p bound (Hidden q later) =
    (q ≡ p) × (is_at n.memory.messages x p ≡ true) × (coh_of n.views x ≤ p) × IsLeastHiding n.memory.messages x p bound later
ChoiceFault n x p bound fault = ⊥

-- there are as many messages as there may be
abbrev pub IsFull : Memory → Type 0
IsFull m = most_messages ≤ length m.messages

-- The faults of each act, with the position that the event chooses. A load's choice is hidden up to the read view, and
-- that of a failing cas up to the greatest coherence view. All other acts choose none.
abbrev pub RowFault : ℕ → Seen → List ℕ → Act-F Act Stmt → Option ℕ → StepFault → Type 0
RowFault d n r (Load q x) None fault = fault ≡ ChoiceMissing
RowFault d n r (Load q x) (Some p) fault = ChoiceFault n x p n.views.vrn fault
RowFault d n r (Cas q x e f) (Some p) fault =
    ChoiceFault n x p (maxcoh n.views) fault
    ⊎ ((can_read (fenced n) x p ≡ true) × (value_at n.memory x p ≡ value r d e) × (fault ≡ CasMustDiffer (value_at n.memory x p)))
RowFault d n r (Cas q x e f) None fault =
    ((last_value n.memory x ≢ value r d e) × (fault ≡ CasNotLast (last_value n.memory x)))
    ⊎ ((last_value n.memory x ≡ value r d e) × IsFull n.memory × (fault ≡ MessagesFull))
RowFault d n r (Store x e) None fault = IsFull n.memory × (fault ≡ MessagesFull)
RowFault d n r act None fault = ⊥
RowFault d n r act (Some p) fault = fault ≡ NoChoice

-- the event's thread has a statement at its point, whose act has this fault
pub record ActFault (p : ProgramTable) (s : State) (e : Event) (fault : StepFault) : Type 0 where
  pub thread : HasThread p e
  pub stmt : Stmt
  pub stands : stmt_at p e.thread (point_of s e.thread) ≡ Some stmt
  pub row : RowFault p.names.domain (seen_by s e.thread) s.scalars (act_of stmt) e.choice fault

-- The fault of an event. Want of memory is none: it comes after all of them.
abbrev pub IsFault : ProgramTable → State → Event → StepFault → Type 0
IsFault p s e (NoThread t) = (t ≡ e.thread) × ((t < 1) ⊎ (length p.threads < t))
IsFault p s e Ended = HasThread p e × (stmt_at p e.thread (point_of s e.thread) ≡ None)
IsFault p s e fault = ActFault p s e fault

-- an event has one fault at most
abbrev pub HasOneFault : Type 0
HasOneFault = (p : ProgramTable) (s : State) (e : Event) (f g : StepFault) → IsFault p s e f → IsFault p s e g → f ≡ g

-- and where it has one, it leads to no state within the limit of messages
abbrev pub FaultHasNoStep : Type 0
FaultHasNoStep =
    (p : ProgramTable) (s : State) (e : Event) (f : StepFault) (next : State) → IsFault p s e f → IsStep p s e next → length next.memory.messages ≤ most_messages → ⊥
