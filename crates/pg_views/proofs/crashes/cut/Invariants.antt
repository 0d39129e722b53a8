use Rattle.std.proofs.Common.{◌≡◌, max, drop}
use Rattle.pg_machine.specs.State.{greatest_on}
use Rattle.pg_views.specs.Crash.{cut}
use Rattle.pg_views.proofs.crashes.cut.Given as goal

abbrev pub invariant-loop-x : goal.invariant-loop-x
invariant-loop-x l = max l.most (greatest_on (drop l.x l.s.state.memory.lines) (drop l.x l.at) l.line) ≡ cut l.s.state l.at l.line
