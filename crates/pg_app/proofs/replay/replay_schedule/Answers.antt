-- The line of the answer is put behind the trace, unless that was cut short.
use Rattle.pg_app.proofs.Replayed.{cut_puts, replayed_puts}
use Rattle.pg_app.proofs.replay.replay_schedule.Goals as goal

pub returns-in-Some : goal.returns-in-Some
returns-in-Some g c =
    cut_puts c.args.outline.now c.args.schedule.now c.replay-answer.result c.in-Some.status c.replay-answer.ensures.trace (rw c.in-Some.is at c.cut_status.ensures)

pub returns-in-None : goal.returns-in-None
returns-in-None g c =
    replayed_puts c.args.outline.now c.args.schedule.now c.replay-answer.result _ c.replay-answer.ensures.trace (rw c.in-None.is at c.cut_status.ensures) c.replay-answer.ensures.faults c.put_answer.ensures
