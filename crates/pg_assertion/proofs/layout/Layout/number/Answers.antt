use Rattle.std.proofs.Common.{arith}
use Rattle.pg_assertion.proofs.LayoutOrder.{number_within}
use Rattle.pg_assertion.proofs.layout.Layout.number.Goals as goal

pub returns-clause-within : goal.returns-clause-within
returns-clause-within c =
    let w = number_within c.args.self.now c.args.a.now c.requires in
    (omega (arith, w.0, c.place_of.ensures.place), omega (arith, w.1, c.place_of.ensures.place))
