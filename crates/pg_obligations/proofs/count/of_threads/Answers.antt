use Rattle.std.proofs.Common.{arith}
use Rattle.pg_obligations.specs.Obligations.{of_thread}
use Rattle.pg_obligations.proofs.Places.{range_length}
use Rattle.pg_obligations.proofs.count.of_threads.Goals as goal

pub loop-t-preserved : goal.loop-t-preserved
loop-t-preserved c =
    let more = range_length (of_thread c.args.p.now) 1 c.loop-t.t (omega arith) in
    let same = c.loop-t.invariant.0 in
    let few = c.loop-t.invariant.1 in
    (omega (arith, more, same), omega (arith, few))
