use Rattle.std.proofs.Common.{◌≡◌, replicate}
use Rattle.pg_machine.specs.State.{fresh_views}
use Rattle.pg_machine.proofs.state.fresh_views.Given as goal

abbrev pub invariant-loop-thread : goal.invariant-loop-thread
invariant-loop-thread l = l.views.items ≡ replicate l._thread (fresh_views l.locations l.lines)
