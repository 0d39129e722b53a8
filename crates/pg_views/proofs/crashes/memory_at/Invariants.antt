use Rattle.std.proofs.Common.{◌≡◌, ◌++◌, drop}
use Rattle.pg_views.specs.Crash.{values_at, crash_memory}
use Rattle.pg_views.proofs.crashes.memory_at.Given as goal

abbrev pub invariant-loop-x : goal.invariant-loop-x
invariant-loop-x l = l.values.items ++ values_at l.s.state.memory l.x (drop l.x l.at) ≡ crash_memory l.s.state l.at
