use Rattle.std.proofs.Common.{◌≤◌, length, arith}
use Rattle.pg_program.specs.Program.{points}
use Rattle.pg_logic_tests.proofs.FirstStep.{first_of}
use Rattle.pg_logic_tests.proofs.steps.first_step.Goals as goal

pub returns-in-len1-up : goal.returns-in-len1-up
returns-in-len1-up c =
    let some : 1 ≤ length c.args.p.now.threads = omega (arith, c.threads.ensures.count, c.if-threads-lt1.false) in
    let ends : 1 ≤ points c.args.p.now 1 = omega arith in
    let first : 1 ≤ 1 = omega arith in
    first_of c.args.p.now 1 1 c.steps.result.now _ (first, some) (first, ends) c.steps.ensures (omega (arith, c.in-len1-up.len_at_least))
