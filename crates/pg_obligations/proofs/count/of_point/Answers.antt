use Rattle.std.proofs.Common.{length, ap, arith}
use Rattle.pg_obligations.proofs.Counts.{few_steps}
use Rattle.pg_obligations.proofs.count.of_point.Goals as goal

pub of_steps-requires : goal.of_steps-requires
of_steps-requires c = omega (arith, few_steps c.args.p.now c.args.t c.args.k, ap length c.steps.ensures)

pub returns-clause-few : goal.returns-clause-few
returns-clause-few c = omega (arith, few_steps c.args.p.now c.args.t c.args.k, ap length c.steps.ensures)
