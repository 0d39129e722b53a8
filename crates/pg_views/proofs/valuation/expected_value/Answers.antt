use Rattle.std.proofs.Common.{length}
use Rattle.pg_machine.proofs.Uses.{cas_uses}
use Rattle.pg_views.proofs.valuation.expected_value.Goals as goal

pub eval-requires-clause-names : goal.eval-requires-clause-names
eval-requires-clause-names c =
    (cas_uses (length c.args.scalars.now) c.args.act.now c.in-Cas.target c.in-Cas.location c.in-Cas.expected c.in-Cas.desired c.in-Cas.is c.requires.scalars).expected
