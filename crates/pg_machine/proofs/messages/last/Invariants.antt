use Rattle.std.proofs.Common.{◌≡◌}
use Rattle.pg_machine.specs.Memory.{last_upto}
use Rattle.pg_machine.proofs.messages.last.Given as goal

abbrev pub invariant-loop-i : goal.invariant-loop-i
invariant-loop-i l = l.last ≡ last_upto l.messages l.location l.i
