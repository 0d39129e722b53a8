use Rattle.std.proofs.Common.{◌+◌, ◌-◌, length, ap, ◌∙◌, arith}
use Rattle.pg_program.specs.Program.{ProgramTable}
use Rattle.pg_outline_text.proofs.SpellingParts.{thread_printed, threads_printed}
use Rattle.pg_outline_text.proofs.print.put_threads.Goals as goal

pub threads-preserved : goal.threads-preserved
threads-preserved c =
    let o = c.args.o.now in
    let i = c.threads.i in
    let count = c.threads-i-end.ensures.count ∙ ap (λ (p : ProgramTable). length p.threads) c.program.ensures.program in
    let here = c.threads-test.true in
    thread_printed o.program.names o.program.threads o.notes i (i + 1 - 1) c.threads.into.items c.put_thread.new.into.items _ (omega arith) (omega (arith, here, count))
    c.in_ok-put_thread.ensures c.threads.invariant

pub returns : goal.returns
returns c =
    let o = c.args.o.now in
    let count = c.threads-i-end.ensures.count ∙ ap (λ (p : ProgramTable). length p.threads) c.program.ensures.program in
    let past = c.threads-test.false in
    threads_printed o.program.names o.program.threads _ c.threads.i _ c.threads.into.items _ (omega (arith, past, count)) c.threads.invariant
