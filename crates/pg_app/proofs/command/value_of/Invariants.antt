-- The digits up to here are the value.
use Rattle.std.proofs.Common.{◌≡◌, ◌≤◌, drop}
use Rattle.pg_app.specs.Number.{read_on}
use Rattle.pg_app.proofs.command.value_of.Given as goal

abbrev pub invariant-loop-digit : goal.invariant-loop-digit
invariant-loop-digit l = (read_on 0 l.digits ≡ read_on l.value (drop l.digit-index l.digits)) × (l.value ≤ l.most)
