-- The sets of values of a location by their places, from 0, as the code goes through them.
use Rattle.std.specs.Prelude.{ℕ, ◌+◌, ◌-◌, ◌*◌, ◌==◌, nat_lt, List, if◌then◌else◌}
use Rattle.std.specs.List.{flat_map, range_with_len}
use Rattle.pg_assertion.specs.Layout.{Sizes}
use Rattle.pg_views.specs.Laws.{ValueSet, readable, persistent, pending}
use Rattle.pg_tables.specs.declared.clause.StepLiteral.{StepLiteral}

abbrev pub set_count : Sizes → ℕ
set_count l = 2 * l.threads + 1

abbrev pub set_at : Sizes → ℕ → ValueSet
set_at l i = if nat_lt i l.threads then readable (i + 1) else (if i == l.threads then persistent else pending (i - l.threads))

unfoldable pub per_place : Sizes → (ℕ → List (List StepLiteral)) → List (List StepLiteral)
per_place l f = flat_map f (range_with_len 0 (set_count l))
