use Rattle.std.proofs.Common.{arith}
use Rattle.pg_decider.proofs.Trails.{trail-made}
use Rattle.pg_tree.proofs.path.Path.make.Goals as goal

pub invariant_of-result : goal.invariant_of-result
invariant_of-result c =
    rw c.in_ok-literals.ensures.items
    (trail-made c.in_ok-values.values.items c.args.atoms _ (c.in_ok-values.ensures.items_if_clones_equal (λ y h. h)) (omega (arith, c.in_ok-literals.ensures.exact)) (omega arith))
