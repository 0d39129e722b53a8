-- The schedule that was fetched is answered, or the call ends with its refusal.
use Rattle.pg_app.proofs.Endings.{schedule_ends, schedule_stops}
use Rattle.pg_app.proofs.replay.replay_on.Goals as goal

pub returns-in-Ok-clause-ends : goal.returns-in-Ok-clause-ends
returns-in-Ok-clause-ends g c = schedule_ends c.args.outline.now c.args.name.now c.in-Ok.schedule c.in-Ok.ensures.fetched (rw c.in-Ok.ensures.unwritten at c.replay_schedule.ensures)

pub returns-in-Err-clause-ends : goal.returns-in-Err-clause-ends
returns-in-Err-clause-ends g c = schedule_stops c.args.outline.now c.args.name.now c.in-Err.ensures.stops
