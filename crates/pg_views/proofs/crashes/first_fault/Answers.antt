use Rattle.std.proofs.Common.{◌≡◌, ap, ◌∙◌, inl, inr, arith}
use Rattle.std.proofs.lemmas.Bool.{cases_lt}
use Rattle.pg_views.specs.Crash.{survives}
use Rattle.pg_views.proofs.crashes.first_fault.Goals as goal

pub loop-x-preserved : goal.loop-x-preserved
loop-x-preserved c = λ y lt. elim (cases_lt y c.loop-x.x) [
  | inl less ↦ c.loop-x.invariant y less
  | inr le ↦
      let e : y ≡ c.loop-x.x = omega (arith, lt, le) in
      ap (survives c.args.s.now.state c.args.at.now) e ∙ c.in_default.ensures
]
