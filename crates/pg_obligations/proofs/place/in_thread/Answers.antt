use Rattle.std.proofs.Common.{arith}
use Rattle.pg_program.specs.Program.{points}
use Rattle.pg_obligations.specs.Obligations.{of_point}
use Rattle.pg_obligations.proofs.Places.{range_here, range_more}
use Rattle.pg_obligations.proofs.place.in_thread.Goals as goal

pub returns-in-Here : goal.returns-in-Here
returns-in-Here c = range_here (of_point c.args.p.now c.args.t) 1 (points c.args.p.now c.args.t) c.loop-k.k c.args.place c.loop-k.left c.in-Here.obligation (omega arith) (omega arith) c.loop-k.invariant c.in-Here.ensures

pub loop-k-preserved : goal.loop-k-preserved
loop-k-preserved c = range_more (of_point c.args.p.now c.args.t) 1 c.loop-k.k c.args.place c.loop-k.left c.in-Beyond.rest (omega arith) c.loop-k.invariant c.in-Beyond.ensures
