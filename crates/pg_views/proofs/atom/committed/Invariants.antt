use Rattle.std.proofs.Common.{◌≡◌, max, map, drop}
use Rattle.pg_machine.specs.State.{greatest, vpc_of, committed}
use Rattle.pg_views.proofs.atom.committed.Given as goal

abbrev pub invariant-loop-t : goal.invariant-loop-t
invariant-loop-t l = max l.most (greatest (drop l.t (map (λ w. vpc_of w l.line) l.s.state.views))) ≡ committed l.s.state l.line
