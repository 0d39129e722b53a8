-- What the erasure of auxiliaries does to executions: it leaves them the same, with the auxiliaries forgotten.
use Rattle.std.specs.Prelude.{◌≡◌, ℕ, List, [], ◌∷◌, map, if◌then◌else◌}
use Rattle.pg_program.specs.declared.name_table.ScalarKind.{ScalarKind}
use Rattle.pg_program.specs.NameTable.{NameTable}
use Rattle.pg_program.specs.Program.{ProgramTable, IsProgram}
use Rattle.pg_assertion.specs.Formula.{top}
use Rattle.pg_machine.specs.declared.event.Event.{Event}
use Rattle.pg_machine.specs.State.{State}
use Rattle.pg_views.specs.Execution.{IsExecution}
use Rattle.pg_outline.specs.Erasure.{is_register, erased}

-- the values of the registers, without those of the auxiliaries
abbrev pub registers_of : List (List ℕ × ScalarKind) → List ℕ → List ℕ
registers_of [] vs = []
registers_of (e ∷ es) [] = []
registers_of (e ∷ es) (v ∷ vs) = if is_register e.1 then v ∷ registers_of es vs else registers_of es vs

-- a state without its auxiliaries
abbrev pub forgotten : NameTable → State → State
forgotten names s = record s { scalars = registers_of names.scalars s.scalars }

-- Each execution of a program, with the auxiliaries forgotten, is one of its erasure.
abbrev pub ExecutionsAreErased : Type 0
ExecutionsAreErased =
    (p : ProgramTable) → IsProgram p → (first : State) (events : List Event) (states : List State) → IsExecution p top first events states
    → IsExecution (erased p) top (forgotten p.names first) events (map (forgotten p.names) states)

-- an execution of the program that is this one, with the auxiliaries forgotten
pub record Remembers (p : ProgramTable) (first : State) (events : List Event) (states : List State) : Type 0 where
  pub begins : State
  pub goes_on : List State
  pub runs : IsExecution p top begins events goes_on
  pub is_first : forgotten p.names begins ≡ first
  pub are : map (forgotten p.names) goes_on ≡ states

-- And each execution of the erasure is such a one.
abbrev pub ErasedExecutionsAreOf : Type 0
ErasedExecutionsAreOf =
    (p : ProgramTable) → IsProgram p → (first : State) (events : List Event) (states : List State) → IsExecution (erased p) top first events states
    → Remembers p first events states
