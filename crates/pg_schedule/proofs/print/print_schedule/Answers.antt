use Rattle.std.proofs.Common.{◌+◌, ◌<◌, ◌≤◌, length, arith}
use Rattle.pg_schedule.specs.Printing.{schedule_text}
use Rattle.pg_schedule.proofs.Turns.{act_printed, all_printed}
use Rattle.pg_schedule.proofs.Again.{read_again}
use Rattle.pg_schedule.proofs.print.print_schedule.Goals as goal

pub loop-k-preserved : goal.loop-k-preserved
loop-k-preserved c =
    let within : c.loop-k.k < length c.args.s.now = omega (arith, c.loop-k-test.true, c.len-k-end.ensures.count) in
    act_printed c.args.s.now c.loop-k.k (c.loop-k.k + 1) c.loop-k.text.items c.append_act.new.into.items c.extend_from_slice.new.self.items _ _ (omega arith) within c.act.ensures.act c.in_ok-append_act.ensures c.in_ok-extend_from_slice.ensures.items c.loop-k.invariant

pub returns-clause-again : goal.returns-clause-again
returns-clause-again c =
    let past : length c.args.s.now ≤ c.loop-k.k = omega (arith, c.loop-k-test.false, c.len-k-end.ensures.count) in
    rw (all_printed c.args.s.now c.loop-k.k c.loop-k.text.items (schedule_text c.args.s.now) past c.loop-k.invariant) (read_again c.args.s.now c.len-k-end.ensures.numbers)
