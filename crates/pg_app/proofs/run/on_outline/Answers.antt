-- The work on the outline that was fetched ends the call, or the refusal of its file does.
use Rattle.pg_app.proofs.Endings.{work_ends, work_stops}
use Rattle.pg_app.proofs.run.on_outline.Goals as goal

pub returns-in-Ok-clause-ends : goal.returns-in-Ok-clause-ends
returns-in-Ok-clause-ends g c =
    work_ends c.args.name.now c.in-Ok.outline c.fetched_outline.ensures.told c.fetched_outline.ensures.faults c.fetched_outline.ensures.taken c.in-Ok.ensures.fetched c.args.work
    (rw c.in-Ok.ensures.unwritten at c.work_on.ensures.ends)

pub returns-in-Err-clause-ends : goal.returns-in-Err-clause-ends
returns-in-Err-clause-ends g c = work_stops c.args.name.now c.args.work c.in-Err.ensures.stops
