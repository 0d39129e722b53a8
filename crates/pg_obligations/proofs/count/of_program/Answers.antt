use Rattle.std.proofs.Common.{arith}
use Rattle.pg_obligations.proofs.Counts.{counted}
use Rattle.pg_obligations.proofs.count.of_program.Goals as goal

pub returns : goal.returns
returns c = omega (arith, counted c.args.p.now)
