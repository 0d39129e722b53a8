use Rattle.std.proofs.Common.{◌+◌, length, ap, arith}
use Rattle.pg_program.specs.Program.{ProgramTable}
use Rattle.pg_replay.specs.Violation.{assertion_violation, state_violation}
use Rattle.pg_replay.proofs.Ranges.{first-here, first-past}
use Rattle.pg_replay.proofs.violation.state_violation.Goals as goal

pub returns-in-Some : goal.returns-in-Some
returns-in-Some c =
    let o = c.args.o.now in
    let s = c.args.state.now.state in
    let same = ap (λ (p : ProgramTable). length p.threads) c.program.ensures.program in
    let count = c.threads-thread-end.ensures.count in
    let less = c.threads-test.true in
    first-here (assertion_violation o c.args.line s) c.threads.thread (length o.program.threads + 1) (state_violation o c.args.line s) c.in-Some.violation
    (omega (arith, same, count, less)) c.threads.invariant c.in-Some.ensures

pub threads-preserved : goal.threads-preserved
threads-preserved c =
    let o = c.args.o.now in
    let s = c.args.state.now.state in
    let same = ap (λ (p : ProgramTable). length p.threads) c.program.ensures.program in
    let count = c.threads-thread-end.ensures.count in
    let less = c.threads-test.true in
    first-past (assertion_violation o c.args.line s) c.threads.thread (length o.program.threads + 1) (state_violation o c.args.line s)
    (omega (arith, same, count, less)) c.threads.invariant c.in_default.ensures
