use Rattle.std.proofs.Common.{◌≡◌, ◌-◌, map}
use Rattle.std.specs.List.{range_with_len}
use Rattle.pg_made.specs.Made.{statement}
use Rattle.pg_made.proofs.program.statements.Given as goal

abbrev pub invariant-turns : goal.invariant-turns
invariant-turns l = l.statements.items ≡ map statement (range_with_len 1 (l.j - 1))
