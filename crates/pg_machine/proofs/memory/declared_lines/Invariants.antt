use Rattle.std.proofs.Common.{◌≡◌, take}
use Rattle.pg_program.specs.NameTable.{lines}
use Rattle.pg_machine.proofs.memory.declared_lines.Given as goal

abbrev pub invariant-loop-location : goal.invariant-loop-location
invariant-loop-location l = l.lines.items ≡ take l.location (lines l.names)
