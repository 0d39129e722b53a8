use Rattle.std.proofs.Common.{◌≡◌, ℕ, ◌<◌, true}
use Rattle.pg_views.specs.Crash.{survives}
use Rattle.pg_views.proofs.crashes.first_fault.Given as goal

abbrev pub invariant-loop-x : goal.invariant-loop-x
invariant-loop-x l = (y : ℕ) → y < l.x → survives l.s.state l.at y ≡ true
