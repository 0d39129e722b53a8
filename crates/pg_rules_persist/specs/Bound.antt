-- How many clauses the persistency rules of a step have.
use Rattle.std.specs.Prelude.{◌≡◌, ℕ, [], length, replicate}
use Rattle.pg_assertion.specs.Layout.{sizes}
use Rattle.pg_program.specs.declared.point.Step.{Step}
use Rattle.pg_program.specs.NameTable.{NameTable}
use Rattle.pg_program.specs.Program.{ProgramTable, IsProgram}
use Rattle.pg_region.specs.Pieces.{total}
use Rattle.pg_tables.specs.Bound.{AreWithin, AreFew, largest}
use Rattle.pg_tables.specs.Steps.{IsStepOf}
use Rattle.pg_rules_persist.specs.Rows.{cas, flush}
use Rattle.pg_rules_persist.specs.Persist.{persist_rows, persist}

-- the most clauses of a step, and the most literals in all of them together, in either version of the language
abbrev pub most_persist_1 : ℕ
most_persist_1 = 384

abbrev pub most_persist_literals_1 : ℕ
most_persist_literals_1 = 1008

abbrev pub most_persist_2 : ℕ
most_persist_2 = 768

abbrev pub most_persist_literals_2 : ℕ
most_persist_literals_2 = 1860

-- no step of a program has more
abbrev pub HasAtMost : ℕ → ℕ → ℕ → Type 0
HasAtMost version clauses literals =
    (p : ProgramTable) (step : Step) → IsProgram p → IsStepOf p step → AreWithin (sizes p.names (length p.threads)) (largest version)
    → AreFew (persist p step) clauses literals

-- A cas in the largest layout has so many: one of thread 1 on location 0.
abbrev pub CasHas : ℕ → ℕ → ℕ → Type 0
CasHas version clauses literals =
    (length (persist_rows (largest version) (cas 1 0)) ≡ clauses) × (total (persist_rows (largest version) (cas 1 0)) ≡ literals)

-- A flush in it has so many, where all locations stand on one line.
abbrev pub on_one_line : NameTable
on_one_line = record { version = 2; domain = 6; locations = replicate 8 (record { name = []; init = 0; line = 0 }); scalars = [] }

abbrev pub FlushHas : ℕ → ℕ → ℕ → Type 0
FlushHas version clauses literals =
    (length (persist_rows (largest version) (flush on_one_line 1 0)) ≡ clauses)
    × (total (persist_rows (largest version) (flush on_one_line 1 0)) ≡ literals)
