use Rattle.std.proofs.Common.{◌≡◌, ◌^◌, ◌<◌, drop}
use Rattle.pg_schedule.specs.Reading.{value_from}
use Rattle.pg_schedule.proofs.number.value.Given as goal

abbrev pub invariant-loop-byte : goal.invariant-loop-byte
invariant-loop-byte l = (value_from l.n (drop l.byte-index l.digits) ≡ value_from 0 l.digits) × (l.n < 2 ^ 32)
