use Rattle.std.proofs.Common.{◌≡◌, map, length}
use Rattle.pg_assertion.specs.Formula.{plain}
use Rattle.pg_assertion_text.specs.Reading as spec
use Rattle.pg_assertion_text.proofs.formula.implied.Given as goal

-- the premises that are left lead to what all of them lead to
abbrev pub invariant-premises : goal.invariant-premises
invariant-premises g l =
    spec.implied (map plain l.premises.items) (plain l.whole) ≡ spec.implied (map plain l.fn.premises.items) (plain l.fn.last)

abbrev pub decreases-premises : goal.decreases-premises
decreases-premises g l = length l.premises.items
