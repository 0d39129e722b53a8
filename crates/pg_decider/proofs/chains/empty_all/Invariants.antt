use Rattle.std.proofs.Common.{◌≡◌, take}
use Rattle.pg_decider.specs.Weigh.{weigh}
use Rattle.pg_decider.proofs.chains.empty_all.Given as goal

abbrev pub invariant-loop-i : goal.invariant-loop-i
invariant-loop-i l = weigh (λ s. s.size) (take l.i l.starts) ≡ 0
