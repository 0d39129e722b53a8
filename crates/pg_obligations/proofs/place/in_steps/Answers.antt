use Rattle.std.proofs.Common.{arith}
use Rattle.pg_obligations.specs.Obligations.{of_step}
use Rattle.pg_obligations.proofs.Places.{list_here}
use Rattle.pg_obligations.proofs.place.in_steps.Goals as goal

pub returns-in-Here : goal.returns-in-Here
returns-in-Here c = list_here (of_step c.args.p.now) c.args.steps.now c.loop-step.step-index c.args.place c.loop-step.left _ c.in-Here.obligation (omega arith) c.loop-step.invariant c.in-Here.ensures
