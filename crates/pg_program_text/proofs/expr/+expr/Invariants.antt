use Rattle.std.proofs.Common.{◌≡◌, ◌+◌, ◌-◌, ◌*◌}
use Rattle.pg_assertion_text.specs.Below.{above}
use Rattle.pg_program_text.specs.Expr as spec
use Rattle.pg_program_text.proofs.expr.+expr.Given as goal

abbrev pub decreases-sum : goal.decreases-sum
decreases-sum l = 8 * l.levels + 6

abbrev pub decreases-product : goal.decreases-product
decreases-product l = 8 * l.levels + 5

abbrev pub decreases-factor : goal.decreases-factor
decreases-factor l = 8 * l.levels + 4

abbrev pub decreases-factor_in : goal.decreases-factor_in
decreases-factor_in l = 8 * above l.below + 3

abbrev pub decreases-bracketed : goal.decreases-bracketed
decreases-bracketed l = 8 * above l.below + 2

-- what is left of the chain gives what the whole phrase gives
abbrev pub invariant-product-signs : goal.invariant-product-signs
invariant-product-signs l =
    let u = spec.factor_of l.names l.levels in
    spec.product u l.fn.tokens ≡ spec.linked_on u spec.times (l._i-end - l._i) l.left l.tokens

abbrev pub invariant-sum-signs : goal.invariant-sum-signs
invariant-sum-signs l =
    let u = spec.factor_of l.names l.levels in
    spec.sum u l.fn.tokens ≡ spec.linked_on (spec.product u) spec.plus_or_minus (l._i-end - l._i) l.left l.tokens
