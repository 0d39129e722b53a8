use Rattle.std.proofs.Common.{◌≡◌, ◌≤◌, take, length, vec_capacity, vec_len}
use Rattle.pg_decider.specs.Trail.{AreValues}
use Rattle.pg_tree.proofs.path.Path.undo.Given as goal

abbrev pub invariant-loop-self : goal.invariant-loop-self
invariant-loop-self l =
    AreValues l.self-inside.values.items l.self-inside.literals.items (vec_capacity l.self-inside.literals)
    × (length l.self-inside.values.items ≡ length l.initial.self-inside.values.items)
    × (l.mark ≤ length l.self-inside.literals.items)
    × (take l.mark l.self-inside.literals.items ≡ take l.mark l.initial.self-inside.literals.items)

abbrev pub decreases-loop-self : goal.decreases-loop-self
decreases-loop-self l = vec_len l.self-inside.literals
