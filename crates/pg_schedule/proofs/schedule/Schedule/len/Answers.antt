use Rattle.std.proofs.Common.{sym}
use Rattle.pg_schedule.proofs.Kept.{held_numbers}
use Rattle.pg_schedule.proofs.schedule.Schedule.len.Goals as goal

pub returns-clause-numbers : goal.returns-clause-numbers
returns-clause-numbers c = rw (sym c.self.view_is) (held_numbers c.self.inside.positions.items c.self.inside.entries.items c.self.invariant)
