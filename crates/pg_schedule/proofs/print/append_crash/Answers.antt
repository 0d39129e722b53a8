use Rattle.std.proofs.Common.{arith, append_assoc}
use Rattle.std.specs.Prelude.{codes}
use Rattle.pg_schedule.specs.Printing.{positions_text}
use Rattle.pg_schedule.proofs.Turns.{position_printed, all_positions_printed}
use Rattle.pg_schedule.proofs.print.append_crash.Goals as goal

pub loop-position-init : goal.loop-position-init
loop-position-init c = rw c.in_ok-extend_from_slice.ensures.items (append_assoc c.args.into.now.items (codes "crash at") (positions_text c.args.positions.now))

pub loop-position-preserved : goal.loop-position-preserved
loop-position-preserved c =
    position_printed c.args.positions.now c.loop-position.position-index _ c.loop-position.into.items _ _ (omega arith) c.loop-position-test.true c.in_ok-append_number.ensures c.loop-position.invariant

pub returns : goal.returns
returns c = all_positions_printed c.args.positions.now c.loop-position.position-index _ _ (omega arith) c.loop-position.invariant
