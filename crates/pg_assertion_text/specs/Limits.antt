-- The limits of the text of a formula.
use Rattle.std.specs.Prelude.{ℕ}
use Rattle.pg_assertion.specs.Limits as formulas

-- the most nodes that may be read
abbrev pub most_nodes : ℕ
most_nodes = formulas.most_nodes

-- the most brackets and `!` that may be open at once
abbrev pub most_open : ℕ
most_open = 32
