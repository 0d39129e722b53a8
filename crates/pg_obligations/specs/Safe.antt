-- What an outline claims of its program: safety.
use Rattle.std.specs.Prelude.{◌≡◌, ℕ, ◌≤◌, true, List, ◌∷◌, length, All}
use Rattle.pg_program.specs.Program.{IsProgram}
use Rattle.pg_assertion.specs.Expansion.{expansion}
use Rattle.pg_machine.specs.declared.event.Event.{Event}
use Rattle.pg_machine.specs.State.{State, point_of}
use Rattle.pg_views.specs.Formula.{holds}
use Rattle.pg_views.specs.Crash.{HoldsAtCrash}
use Rattle.pg_views.specs.Execution.{IsExecution}
use Rattle.pg_outline.specs.Outline.{OutlineTable, note_at}
use Rattle.pg_obligations.specs.Kept.{Claims, AreEntered, AreKept}

-- in a state, each thread's assertion holds at its point, and the crash formula holds at a crash
pub record IsSafeIn (o : OutlineTable) (s : State) : Type 0 where
  pub assertions : (t : ℕ) → 1 ≤ t → t ≤ length o.program.threads → holds s (note_at o t (point_of s t)) ≡ true
  pub crash : HoldsAtCrash s o.crash

-- an outline is safe where it is so in every state of every execution
abbrev pub IsSafe : OutlineTable → Type 0
IsSafe o =
    (first : State) (events : List Event) (states : List State) → IsExecution o.program o.pre first events states → All (IsSafeIn o) (first ∷ states)

-- The predicates of an outline: of the first state the precondition, of each point its assertion, and of every state the
-- expansion of the crash formula.
abbrev pub claims_of : OutlineTable → Claims
claims_of o = record {
  first = λ s. holds s o.pre;
  at = λ t k s. holds s (note_at o t k);
  always = λ s. holds s (expansion o.program.names o.crash);
}

-- an outline whose predicates are kept is safe
abbrev pub KeptIsSafe : Type 0
KeptIsSafe = (o : OutlineTable) → IsProgram o.program → AreEntered o.program (claims_of o) → AreKept o.program (claims_of o) → IsSafe o
