use Rattle.std.proofs.Common.{◌≡◌, ◌+◌, ◌++◌, drop, map, length}
use Rattle.pg_program.specs.Graph.{graphs}
use Rattle.pg_program.proofs.graph.linked.Given as goal

-- the threads so far are linked
abbrev pub invariant-loop-stmts : goal.invariant-loop-stmts
invariant-loop-stmts l =
    (map (λ t. map (λ s. s.items) t.items) l.graph.items ++ graphs (l.stmts-index + 1) (drop l.stmts-index (map (λ t. t.items) l.threads)) ≡ graphs 1 (map (λ t. t.items) l.threads))
    × (length l.graph.items ≡ l.stmts-index)
