use Rattle.std.proofs.Common.{length, arith}
use Rattle.pg_obligations.specs.Obligations.{against}
use Rattle.pg_obligations.proofs.Places.{range_here, range_more}
use Rattle.pg_obligations.proofs.place.in_others.Goals as goal

pub returns-in-Here : goal.returns-in-Here
returns-in-Here c = range_here (against c.args.p.now c.args.step) 1 (length c.args.p.now.threads) c.loop-u.u c.args.place c.loop-u.left c.in-Here.obligation (omega arith) (omega arith) c.loop-u.invariant c.in-Here.ensures

pub loop-u-preserved : goal.loop-u-preserved
loop-u-preserved c = range_more (against c.args.p.now c.args.step) 1 c.loop-u.u c.args.place c.loop-u.left c.in-Beyond.rest (omega arith) c.loop-u.invariant c.in-Beyond.ensures
