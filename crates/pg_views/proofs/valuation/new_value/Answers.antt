use Rattle.std.proofs.Common.{length}
use Rattle.pg_machine.proofs.Uses.{assign_uses, store_uses, cas_uses}
use Rattle.pg_views.proofs.valuation.new_value.Goals as goal

pub eval-requires-clause-names : goal.eval-requires-clause-names
eval-requires-clause-names c = (assign_uses (length c.args.scalars.now) c.args.act.now c.in-Assign.target c.in-Assign.expr c.in-Assign.is c.requires.scalars).1

pub eval-requires-in-Store-clause-names : goal.eval-requires-in-Store-clause-names
eval-requires-in-Store-clause-names c = store_uses (length c.args.scalars.now) c.args.act.now c.in-Store.location c.in-Store.expr c.in-Store.is c.requires.scalars

pub eval-requires-in-Cas-clause-names : goal.eval-requires-in-Cas-clause-names
eval-requires-in-Cas-clause-names c =
    (cas_uses (length c.args.scalars.now) c.args.act.now c.in-Cas.target c.in-Cas.location c.in-Cas.expected c.in-Cas.desired c.in-Cas.is c.requires.scalars).desired
