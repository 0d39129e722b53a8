use Rattle.std.proofs.Common.{◌≡◌}
use Rattle.pg_machine.proofs.Scan.{raised}
use Rattle.pg_machine.proofs.positions.raise.Given as goal

abbrev pub invariant-loop-i : goal.invariant-loop-i
invariant-loop-i l = l.positions ≡ raised l.i l.initial.positions l.others
