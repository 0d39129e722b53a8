use Rattle.std.proofs.Common.{length, arith}
use Rattle.pg_machine.proofs.Uses.{assign_uses}
use Rattle.pg_machine.proofs.row.move_views.Goals as goal

pub eval-requires-clause-names : goal.eval-requires-clause-names
eval-requires-clause-names c = (assign_uses (length c.args.scalars.now) c.args.act.now c.in-Assign.target c.in-Assign.expr c.in-Assign.is c.requires.scalars).1

pub bounds-scalars-from : goal.bounds-scalars-from
bounds-scalars-from c =
    let low = (assign_uses (length c.args.scalars.now) c.args.act.now c.in-Assign.target c.in-Assign.expr c.in-Assign.is c.requires.scalars).0 in
    let is = c.from.ensures in
    omega (arith, low, is)
