-- The limit of budgets.
use Rattle.std.specs.Prelude.{ℕ}

-- the greatest budget of nodes
abbrev pub most_budget : ℕ
most_budget = 1000000
