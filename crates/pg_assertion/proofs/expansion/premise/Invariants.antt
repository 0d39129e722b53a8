use Rattle.std.proofs.Common.{◌≡◌, map, take}
use Rattle.std.specs.Prelude.{None, option_map}
use Rattle.pg_assertion.specs.Formula.{plain}
use Rattle.pg_assertion.specs.Expansion.{can_persist, joined_all}
use Rattle.pg_assertion.proofs.expansion.premise.Given as goal

-- the conjuncts so far
abbrev pub invariant-loop-x : goal.invariant-loop-x
invariant-loop-x l = option_map plain l.whole ≡ joined_all None (map can_persist (take l.x-index l.vector))
