use Rattle.std.proofs.Common.{◌+◌}
use Rattle.pg_assertion.specs.Formula.{plain, nodes}
use Rattle.pg_assertion.proofs.expansion.+filled.Given as goal

abbrev pub decreases-filled : goal.decreases-filled
decreases-filled l = nodes (plain l.f.now)

abbrev pub decreases-both_filled : goal.decreases-both_filled
decreases-both_filled l = nodes (plain l.f.now) + nodes (plain l.g.now)
