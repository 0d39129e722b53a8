use Rattle.std.proofs.Common.{arith}
use Rattle.pg_obligations.specs.Obligations.{against}
use Rattle.pg_obligations.proofs.Places.{range_length}
use Rattle.pg_obligations.proofs.count.of_step.Goals as goal

pub loop-u-preserved : goal.loop-u-preserved
loop-u-preserved c =
    let more = range_length (against c.args.p.now c.args.step) 1 c.loop-u.u (omega arith) in
    let same = c.loop-u.invariant.0 in
    let few = c.loop-u.invariant.1 in
    (omega (arith, more, same), omega (arith, few))
