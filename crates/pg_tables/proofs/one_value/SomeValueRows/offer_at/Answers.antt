use Rattle.std.proofs.Common.{arith}
use Rattle.std.proofs.lemmas.List.Elements.{All-same}
use Rattle.pg_assertion.specs.StepAtom.{IsStepAtom}
use Rattle.pg_tables.proofs.OneValue.{some-atoms, some-are}
use Rattle.pg_tables.proofs.one_value.SomeValueRows.offer_at.Goals as goal

pub loop-v-preserved : goal.loop-v-preserved
loop-v-preserved g c =
    some-are (g.A.HasValues.atom_for c.args.self.now.0 c.args.i) c.loop-v.v c.loop-v.clause c.with-clause.result c.atom_for.result
    c.loop-v.invariant.0 c.loop-v.invariant.1 c.atom_for.ensures c.with-clause.ensures

pub offer-requires : goal.offer-requires
offer-requires g c =
    All-same (λ x. IsStepAtom c.args.setting.now.layout x.atom) _ _ c.loop-v.invariant.1
    (some-atoms c.args.setting.now.layout (g.A.HasValues.atom_for c.args.self.now.0 c.args.i) 0 c.loop-v.v
    (λ v o. c.requires v (record { from = o.from; to = omega (arith, o.to) })))
