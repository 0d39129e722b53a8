use Rattle.std.proofs.Common.{arith, ◌<◌, ◌≤◌}
use Rattle.std.proofs.lemmas.List.Elements.{All-same}
use Rattle.pg_rules_access.proofs.TupleLists.{in_order_known, zeros_below}
use Rattle.pg_rules_access.proofs.tuples.TuplesRowsUnit.offer_at.Goals as goal

pub offer_tuples-requires-clause-known : goal.offer_tuples-requires-clause-known
offer_tuples-requires-clause-known g c =
    All-same (λ r. r < c.args.setting.now.layout.scalars) _ _ c.in_order-count.ensures.are (in_order_known c.args.setting.now.layout (g.T.Says.reads c.args.self.now.0))

pub offer_tuples-requires-clause-values : goal.offer_tuples-requires-clause-values
offer_tuples-requires-clause-values g c =
    let two : 2 ≤ c.args.setting.now.layout.domain = c.in_order-count.ensures.limits.some_values in
    zeros_below c.args.setting.now.layout.domain 16 (omega (arith, two))
