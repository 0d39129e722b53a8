-- The limits of formulas and of the atoms of a side.
use Rattle.std.specs.Prelude.{ℕ, ◌+◌, ◌*◌}

-- the most nodes that a formula may have: each constant, atom and connective is one
abbrev pub most_nodes : ℕ
most_nodes = 512

-- the most locations that a crash formula may name
abbrev pub most_named : ℕ
most_named = 3

-- the most nodes that an expansion may have
abbrev pub most_expansion_nodes : ℕ
most_expansion_nodes = 8192

-- the most atoms that a side has: with 6 values, 16 scalars, 8 locations and 4 threads
abbrev pub most_atoms : ℕ
most_atoms = 9888

-- the most atoms that a step has: those of both sides; 6 values that it stores or assigns and 6 that it expects; that its
-- cas succeeds, and that its test holds
abbrev pub most_step_atoms : ℕ
most_step_atoms = 2 * most_atoms + 14
