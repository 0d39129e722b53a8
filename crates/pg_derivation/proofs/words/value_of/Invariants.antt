use Rattle.std.proofs.Common.{◌≡◌, ◌<◌, ◌^◌, drop}
use Rattle.pg_derivation.specs.Fault.{value_after}
use Rattle.pg_derivation.proofs.words.value_of.Given as goal

abbrev pub invariant-loop-digit : goal.invariant-loop-digit
invariant-loop-digit l = (value_after l.value (drop l.digit-index l.digits) ≡ value_after 0 l.digits) × (l.value < 2 ^ 31)
