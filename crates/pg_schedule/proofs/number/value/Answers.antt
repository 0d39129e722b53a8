use Rattle.std.proofs.Common.{arith}
use Rattle.pg_schedule.proofs.Digits.{read_at_most_value}
use Rattle.pg_schedule.proofs.number.value.Goals as goal

-- What is read is too large already, and the rest makes it no smaller.
pub returns-then-n-from : goal.returns-then-n-from
returns-then-n-from c =
    let read = read_at_most_value c.args.digits.now c.loop-byte.byte-index c.loop-byte.n (omega arith) c.loop-byte.invariant.0 in
    omega (arith, read, c.saturating_sub.ensures)
