use Rattle.std.proofs.Common.{length, arith}
use Rattle.pg_obligations.specs.Obligations.{of_thread}
use Rattle.pg_obligations.proofs.Places.{range_here, range_more}
use Rattle.pg_obligations.proofs.place.in_threads.Goals as goal

pub returns-in-Here : goal.returns-in-Here
returns-in-Here c = range_here (of_thread c.args.p.now) 1 (length c.args.p.now.threads) c.loop-t.t c.args.place c.loop-t.left c.in-Here.obligation (omega arith) (omega arith) c.loop-t.invariant c.in-Here.ensures

pub loop-t-preserved : goal.loop-t-preserved
loop-t-preserved c = range_more (of_thread c.args.p.now) 1 c.loop-t.t c.args.place c.loop-t.left c.in-Beyond.rest (omega arith) c.loop-t.invariant c.in-Beyond.ensures
