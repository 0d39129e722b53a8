-- The limits of an outline's formulas.
use Rattle.std.specs.Prelude.{ℕ}
use Rattle.pg_assertion.specs.Limits as formulas

-- the most nodes that a formula may have
abbrev pub most_nodes : ℕ
most_nodes = formulas.most_nodes

-- the most locations that a crash formula may name
abbrev pub most_crash_locations : ℕ
most_crash_locations = formulas.most_named

-- the most nodes that the expansion of a crash formula may have
abbrev pub most_expansion_nodes : ℕ
most_expansion_nodes = formulas.most_expansion_nodes
