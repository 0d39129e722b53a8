use Rattle.std.proofs.Common.{◌≡◌, true, take}
use Rattle.pg_region.specs.Literal.{Literal, negated}
use Rattle.pg_decider.specs.Assignment.{on}
use Rattle.pg_decider.proofs.leaf.is_false.Given as goal

abbrev pub invariant-loop-literal : goal.invariant-loop-literal
invariant-loop-literal l = (m : Literal) → on (take l.literal-index l.clause) m ≡ true → on l.trail.literals (negated m) ≡ true
