use Rattle.std.proofs.Common.{◌≡◌, ◌++◌, map, take}
use Rattle.pg_tables.specs.Clause.{yes, no}
use Rattle.pg_tables.proofs.clause.implies.Given as goal

abbrev pub invariant-loop-atom : goal.invariant-loop-atom
invariant-loop-atom l = l.clause ≡ map no (take l.atom-index l.left)

abbrev pub invariant-loop-atom-2 : goal.invariant-loop-atom-2
invariant-loop-atom-2 l = l.clause ≡ map no l.left ++ map yes (take l.atom-index l.right)
