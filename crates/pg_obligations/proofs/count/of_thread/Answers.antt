use Rattle.std.proofs.Common.{arith}
use Rattle.pg_obligations.specs.Obligations.{of_point}
use Rattle.pg_obligations.proofs.Places.{range_length}
use Rattle.pg_obligations.proofs.count.of_thread.Goals as goal

pub loop-k-preserved : goal.loop-k-preserved
loop-k-preserved c =
    let more = range_length (of_point c.args.p.now c.args.t) 1 c.loop-k.k (omega arith) in
    let same = c.loop-k.invariant.0 in
    let few = c.loop-k.invariant.1 in
    (omega (arith, more, same), omega (arith, few))
