-- Executions of a program.
use Rattle.std.specs.Prelude.{◌≡◌, true, List, [], ◌∷◌, All}
use Rattle.pg_assertion.specs.declared.atom.ViewAtom.{ViewAtom}
use Rattle.pg_assertion.specs.Formula.{Plain}
use Rattle.pg_program.specs.Program.{ProgramTable}
use Rattle.pg_machine.specs.declared.event.Event.{Event}
use Rattle.pg_machine.specs.State.{State, IsWellFormed}
use Rattle.pg_machine.specs.Step.{IsStep}
use Rattle.pg_views.specs.Formula.{holds}

-- a first state: any that is well formed, with each thread at its first point and the precondition true
pub record IsStart (p : ProgramTable) (pre : Plain ViewAtom) (s : State) : Type 0 where
  pub formed : IsWellFormed p s
  pub first : All (λ k. k ≡ 1) s.points
  pub meets : holds s pre ≡ true

-- the events lead from a state to the others, one after the other
abbrev pub Leads : ProgramTable → State → List Event → List State → Type 0
Leads p s [] [] = Unit {0}
Leads p s [] (next ∷ states) = ⊥
Leads p s (e ∷ events) [] = ⊥
Leads p s (e ∷ events) (next ∷ states) = IsStep p s e next × Leads p next events states

-- an execution: a first state, and as many further ones as events
pub record IsExecution (p : ProgramTable) (pre : Plain ViewAtom) (first : State) (events : List Event) (states : List State) : Type 0 where
  pub start : IsStart p pre first
  pub steps : Leads p first events states
