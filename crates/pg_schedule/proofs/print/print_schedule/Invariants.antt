use Rattle.std.proofs.Common.{◌≡◌, ◌++◌, drop}
use Rattle.pg_schedule.specs.Printing.{acts_text, schedule_text}
use Rattle.pg_schedule.proofs.print.print_schedule.Given as goal

abbrev pub invariant-loop-k : goal.invariant-loop-k
invariant-loop-k l = l.text.items ++ acts_text (drop l.k l.s) ≡ schedule_text l.s
