use Rattle.std.proofs.Common.{subst, arith}
use Rattle.pg_assertion.specs.StepAtom.{IsStepAtom}
use Rattle.pg_assertion.proofs.LayoutOrder.{number_on_within}
use Rattle.pg_assertion.proofs.layout.Layout.step_number.Goals as goal

pub returns-in-On-clause-within : goal.returns-in-On-clause-within
returns-in-On-clause-within c =
    let l = c.args.self.now in
    let w = number_on_within l c.in-On.atom c.in-On.side (subst (IsStepAtom l) c.in-On.is c.requires) in
    (omega (arith, w.0, c.number_at.ensures), omega (arith, w.1, c.number_at.ensures))

pub returns-in-On-clause-few : goal.returns-in-On-clause-few
returns-in-On-clause-few c =
    let l = c.args.self.now in
    let w = number_on_within l c.in-On.atom c.in-On.side (subst (IsStepAtom l) c.in-On.is c.requires) in
    omega (arith, w.1, c.number_at.ensures, c.both_sides-both_sides.ensures.count, c.both_sides-both_sides.ensures.few)
