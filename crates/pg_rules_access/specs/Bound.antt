-- How many access rules a step has.
use Rattle.std.specs.Prelude.{ℕ, length}
use Rattle.pg_assertion.specs.Layout.{sizes}
use Rattle.pg_program.specs.declared.point.Step.{Step}
use Rattle.pg_program.specs.Program.{ProgramTable, IsProgram}
use Rattle.pg_tables.specs.Bound.{AreWithin, AreFew, largest}
use Rattle.pg_tables.specs.Steps.{IsStepOf}
use Rattle.pg_rules_access.specs.Access.{access}

-- The most clauses of a step, and the most literals in all of them together, in either version of the language: those of a cas of
-- one of four threads in the largest layout, counted as if each expression read four scalars and the bracket assigned each scalar
-- but the register that the cas reads into. A step of a text has fewer: its bracket has at most four assignments.
abbrev pub most_access_rules_1 : ℕ
most_access_rules_1 = 12860

abbrev pub most_access_literals_1 : ℕ
most_access_literals_1 = 46934

abbrev pub most_access_rules_2 : ℕ
most_access_rules_2 = 52786

abbrev pub most_access_literals_2 : ℕ
most_access_literals_2 = 198952

-- no step of a program has more
abbrev pub HasAtMost : ℕ → ℕ → ℕ → Type 0
HasAtMost version clauses literals =
    (p : ProgramTable) (step : Step) → IsProgram p → IsStepOf p step → AreWithin (sizes p.names (length p.threads)) (largest version)
    → AreFew (access p step) clauses literals
