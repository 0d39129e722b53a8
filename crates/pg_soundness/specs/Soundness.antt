-- Soundness of the rules: each clause is true of every step that the machine takes.
use Rattle.std.specs.Prelude.{◌≤◌, List, length}
use Rattle.pg_program.specs.declared.point.Step.{Step}
use Rattle.pg_program.specs.Limits.{most_scalars}
use Rattle.pg_program.specs.Program.{ProgramTable, IsProgram}
use Rattle.pg_machine.specs.declared.event.Event.{Event}
use Rattle.pg_machine.specs.State.{State, IsWellFormed}
use Rattle.pg_machine.specs.Step.{IsStepThrough}
use Rattle.pg_views.specs.Valuation.{valuation}
use Rattle.pg_tables.specs.declared.clause.StepLiteral.{StepLiteral}
use Rattle.pg_tables.specs.Truth.{AllTrue}
use Rattle.pg_rules_access.specs.Access.{access}
use Rattle.pg_rules_persist.specs.Persist.{persist}

-- These rules of each step are true of each step of the machine through it, from every well-formed state of the program.
abbrev pub AreTrueOfSteps : ProgramTable → (Step → List (List StepLiteral)) → Type 0
AreTrueOfSteps p rules =
    (s : State) (e : Event) (step : Step) (next : State)
    → IsProgram p → IsWellFormed p s → IsStepThrough p s e step next → AllTrue (valuation p e s next) (rules step)

-- The access rules are, where no more scalars are declared than a table of names may have: what an expression says is given over the
-- values of so many.
abbrev pub AccessRulesAreTrue : Type 0
AccessRulesAreTrue = (p : ProgramTable) → length p.names.scalars ≤ most_scalars → AreTrueOfSteps p (access p)

abbrev pub PersistRulesAreTrue : Type 0
PersistRulesAreTrue = (p : ProgramTable) → AreTrueOfSteps p (persist p)
