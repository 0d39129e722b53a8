use Rattle.std.proofs.Common.{arith}
use Rattle.pg_program.specs.Program.{points}
use Rattle.pg_obligations.specs.declared.obligation.Obligation.TheVariants.{Interfere}
use Rattle.pg_obligations.proofs.Places.{length_other}
use Rattle.pg_obligations.proofs.count.against.Goals as goal

pub returns-else-u-step-clause-count : goal.returns-else-u-step-clause-count
returns-else-u-step-clause-count c =
    let e = length_other (λ k. Interfere c.args.step (record { thread = c.args.u; point = k })) c.args.u c.args.step.thread (points c.args.p.now c.args.u) c.if-u-step.false in
    omega (arith, e)
