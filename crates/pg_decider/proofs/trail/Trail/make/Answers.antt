use Rattle.std.proofs.Common.{◌+◌, ℕ, length, sym, ap, ◌∙◌, arith}
use Rattle.std.proofs.lemmas.List.{length-replicate}
use Rattle.pg_decider.proofs.Trails.{trail-made}
use Rattle.pg_decider.proofs.trail.Trail.make.Goals as goal

pub invariant_of-result : goal.invariant_of-result
invariant_of-result c =
    let items = c.in_ok-values.ensures.items_if_clones_equal (λ y h. h) in (
      rw c.in_ok-literals.ensures.items
          (trail-made c.in_ok-values.values.items c.args.atoms _ items (omega (arith, c.in_ok-literals.ensures.exact)) (omega arith)),
      ap length c.in_ok-reasons.ensures.items ∙ ap length (sym c.in_ok-literals.ensures.items),
      omega (arith, c.in_ok-reasons.ensures.exact, ap length items, length-replicate {A = ℕ} (c.args.atoms + 1) 0),
    )
