use Rattle.std.proofs.Common.{◌≡◌}
use Rattle.pg_assertion.specs.Formula.{plain}
use Rattle.pg_assertion.specs.Expansion.{named}
use Rattle.pg_assertion.proofs.expansion.named.Given as goal

-- the named ones of the locations so far
abbrev pub invariant-loop-x : goal.invariant-loop-x
invariant-loop-x l = l.named.items ≡ named l.x (plain l.f)
