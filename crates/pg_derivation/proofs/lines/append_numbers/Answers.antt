use Rattle.pg_derivation.proofs.Printing.{printed, number-next}
use Rattle.pg_derivation.proofs.lines.append_numbers.Goals as goal

pub loop-number-preserved : goal.loop-number-preserved
loop-number-preserved c =
    printed _ _ _ _ _ _ _ _ c.in_ok-append_number.ensures c.in_ok-extend_from_slice.ensures.items c.loop-number.invariant (number-next c.args.numbers.now c.loop-number.number-index c.loop-number-test.true)
