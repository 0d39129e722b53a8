use Rattle.std.proofs.Common.{◌≡◌, ◌*◌, ◌≤◌, length, take}
use Rattle.std.specs.List.{flat_map}
use Rattle.pg_obligations.specs.Obligations.{of_step}
use Rattle.pg_obligations.proofs.count.of_steps.Given as goal

abbrev pub invariant-loop-step : goal.invariant-loop-step
invariant-loop-step l = (l.count ≡ length (flat_map (of_step l.p) (take l.step-index l.steps))) × (l.count ≤ 130 * l.step-index)
