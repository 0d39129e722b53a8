use Rattle.std.proofs.Common.{◌≡◌, ℕ, ◌<◌, false}
use Rattle.pg_machine.specs.Memory.{hides}
use Rattle.pg_machine.proofs.messages.hiding.Given as goal

abbrev pub invariant-loop-later : goal.invariant-loop-later
invariant-loop-later l = (q : ℕ) → q < l.later → hides l.messages l.location l.position l.bound q ≡ false
