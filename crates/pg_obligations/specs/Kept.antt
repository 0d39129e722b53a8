-- Predicates of states that hold along every execution.
use Rattle.std.specs.Prelude.{◌≡◌, ℕ, ◌≤◌, Bool, true, List, ◌∷◌, length, All}
use Rattle.pg_program.specs.Program.{ProgramTable, IsProgram}
use Rattle.pg_machine.specs.declared.event.Event.{Event}
use Rattle.pg_machine.specs.State.{State, IsWellFormed, point_of}
use Rattle.pg_machine.specs.Step.{IsStep}
use Rattle.pg_views.specs.Execution.{Leads}

-- one predicate of the first state, one for each point of each thread, and one of every state
pub record Claims : Type 0 where
  pub first : State → Bool
  pub at : ℕ → ℕ → State → Bool
  pub always : State → Bool

-- t is a thread of the program
pub record IsThread (p : ProgramTable) (t : ℕ) : Type 0 where
  pub from : 1 ≤ t
  pub to : t ≤ length p.threads

-- a well-formed state in which each thread is at its first point, and which meets the predicate of the first state
pub record IsFirst (p : ProgramTable) (c : Claims) (s : State) : Type 0 where
  pub formed : IsWellFormed p s
  pub points : All (λ k. k ≡ 1) s.points
  pub meets : c.first s ≡ true

-- Such a state meets the predicate of each thread's first point, and the one of every state.
pub record AreEntered (p : ProgramTable) (c : Claims) : Type 0 where
  pub entry : (s : State) (t : ℕ) → IsFirst p c s → IsThread p t → c.at t 1 s ≡ true
  pub crash : (s : State) → IsFirst p c s → c.always s ≡ true

-- a step from a well-formed state that meets the predicate at the acting thread's point, and the one of every state
pub record IsGoodStep (p : ProgramTable) (c : Claims) (s : State) (e : Event) (next : State) : Type 0 where
  pub formed : IsWellFormed p s
  pub step : IsStep p s e next
  pub at : c.at e.thread (point_of s e.thread) s ≡ true
  pub always : c.always s ≡ true

-- Such a step leads to a state that meets the predicate of the point to which the thread goes, and the one of every state; and it
-- keeps the predicate of each point of another thread at which that thread is.
pub record AreKept (p : ProgramTable) (c : Claims) : Type 0 where
  pub local : (s : State) (e : Event) (next : State) → IsGoodStep p c s e next → c.at e.thread (point_of next e.thread) next ≡ true
  pub crash : (s : State) (e : Event) (next : State) → IsGoodStep p c s e next → c.always next ≡ true
  pub interfere : (s : State) (e : Event) (next : State) (t : ℕ) → IsGoodStep p c s e next → IsThread p t → (t ≡ e.thread → ⊥)
      → c.at t (point_of s t) s ≡ true → c.at t (point_of s t) next ≡ true

-- a well-formed state that meets the predicate at each thread's point, and the one of every state
pub record Hold (p : ProgramTable) (c : Claims) (s : State) : Type 0 where
  pub formed : IsWellFormed p s
  pub at : (t : ℕ) → IsThread p t → c.at t (point_of s t) s ≡ true
  pub always : c.always s ≡ true

-- So each state is that a run of any length comes to from such a first one.
abbrev pub HoldAlong : Type 0
HoldAlong =
    (p : ProgramTable) (c : Claims) → IsProgram p → AreEntered p c → AreKept p c
    → (first : State) (events : List Event) (states : List State) → IsFirst p c first → Leads p first events states
    → All (Hold p c) (first ∷ states)
