use Rattle.std.proofs.Common.{◌≡◌, true, false, take}
use Rattle.pg_region.specs.Literal.{Literal, same, negated}
use Rattle.pg_decider.specs.Assignment.{on}
use Rattle.pg_decider.proofs.watches.find.Given as goal

abbrev pub invariant-loop-literal : goal.invariant-loop-literal
invariant-loop-literal l = (m : Literal) → on (take l.literal-index l.clause) m ≡ true → same m l.second ≡ false → on l.trail.literals (negated m) ≡ true
