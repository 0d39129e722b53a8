use Rattle.std.proofs.Common.{◌≡◌, ◌+◌, ◌≤◌, length}
use Rattle.pg_schedule.specs.Words.{saying}
use Rattle.pg_schedule.specs.Reading.{acts}
use Rattle.pg_schedule.proofs.Turns.{acts_after}
use Rattle.pg_schedule.proofs.parse.read_acts.Given as goal

abbrev pub invariant-acts : goal.invariant-acts
invariant-acts l =
    (acts_after l.schedule (acts (saying l.lines)) ≡ acts (saying l.fn.lines))
    × (length l.schedule + length l.lines ≤ length l.fn.lines)

abbrev pub decreases-acts : goal.decreases-acts
decreases-acts l = length l.lines
