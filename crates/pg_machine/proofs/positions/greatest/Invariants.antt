use Rattle.std.proofs.Common.{◌≡◌, max, drop}
use Rattle.pg_machine.specs.State.{greatest}
use Rattle.pg_machine.proofs.positions.greatest.Given as goal

abbrev pub invariant-loop-position : goal.invariant-loop-position
invariant-loop-position l = max l.most (greatest (drop l.position-index l.positions)) ≡ greatest l.positions
