-- The declared value is one of the initial ones.
use Rattle.std.proofs.Common.{arith}
use Rattle.pg_report.proofs.FreshLines.{first_at}
use Rattle.pg_report.proofs.fresh.first_value.Goals as goal

pub overflow_cast-result : goal.overflow_cast-result
overflow_cast-result c =
    let fits = (first_at c.args.p.now c.names.result.now c.args.x c.init.result c.names.ensures.built c.names.ensures.names c.init.ensures).fits in
    omega (arith, fits)

pub returns : goal.returns
returns c = (first_at c.args.p.now c.names.result.now c.args.x c.init.result c.names.ensures.built c.names.ensures.names c.init.ensures).is
