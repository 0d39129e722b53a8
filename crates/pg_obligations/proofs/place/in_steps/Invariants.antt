use Rattle.std.proofs.Common.{◌≡◌, ◌+◌, length, take}
use Rattle.std.specs.List.{flat_map}
use Rattle.pg_obligations.specs.Obligations.{of_step}
use Rattle.pg_obligations.proofs.place.in_steps.Given as goal

abbrev pub invariant-loop-step : goal.invariant-loop-step
invariant-loop-step l = l.place ≡ length (flat_map (of_step l.p) (take l.step-index l.steps)) + l.left
