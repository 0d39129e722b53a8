use Rattle.std.proofs.Common.{◌≡◌, ◌≤◌, length}
use Rattle.pg_schedule.specs.Words.{saying}
use Rattle.pg_schedule.proofs.lines.Lines.next_saying.Given as goal

abbrev pub invariant-lines : goal.invariant-lines
invariant-lines l = (saying l.self ≡ saying l.fn.self) × (length l.self ≤ length l.fn.self)

abbrev pub decreases-lines : goal.decreases-lines
decreases-lines l = length l.self
