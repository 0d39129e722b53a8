use Rattle.std.proofs.Common.{◌≡◌}
use Rattle.pg_region.specs.Range.{listed}
use Rattle.pg_derive.specs.SoFar.{IsTreeSoFar}
use Rattle.pg_derive.proofs.tree.put_tree.Given as goal

abbrev pub invariant-nodes : goal.invariant-nodes
invariant-nodes g l =
    (l.workspace.atoms ≡ l.fn.workspace.atoms) × (l.workspace.clauses ≡ l.fn.workspace.clauses)
    × IsTreeSoFar (listed l.region.clauses l.loaded.range) l.log.lines l.k (g.K.Sink.written l.fn.out) (g.K.Sink.written l.out) (g.K.Sink.faults l.fn.out) (g.K.Sink.faults l.out)
