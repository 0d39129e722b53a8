use Rattle.std.proofs.Common.{◌≡◌, max, drop}
use Rattle.pg_machine.specs.State.{greatest_on}
use Rattle.pg_machine.proofs.positions.greatest_on.Given as goal

abbrev pub invariant-loop-i : goal.invariant-loop-i
invariant-loop-i l = max l.most (greatest_on (drop l.i l.lines) (drop l.i l.positions) l.line) ≡ greatest_on l.lines l.positions l.line
