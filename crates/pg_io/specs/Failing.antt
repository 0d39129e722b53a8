-- The calls of a room or a sink in memory that are to fail, by their numbers, counted from 1.
use Rattle.std.specs.Prelude.{ℕ, List, Bool, ◌==◌}
use Rattle.std.specs.List.{list_any}
use Rattle.pg_io.specs.Counts.{raised}

-- after so many calls, the next call's number is one of those that are to fail
abbrev pub is_due : List ℕ → ℕ → Bool
is_due failing calls = list_any (λ number. number == raised 1 calls) failing
