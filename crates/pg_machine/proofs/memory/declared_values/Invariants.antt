use Rattle.std.proofs.Common.{◌≡◌, take}
use Rattle.pg_program.specs.NameTable.{initial}
use Rattle.pg_machine.proofs.memory.declared_values.Given as goal

abbrev pub invariant-loop-location : goal.invariant-loop-location
invariant-loop-location l = l.values.items ≡ take l.location (initial l.names)
