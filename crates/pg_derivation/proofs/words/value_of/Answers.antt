use Rattle.std.proofs.Common.{sym, arith}
use Rattle.std.proofs.lemmas.Grind.{common_steps}
use Rattle.pg_derivation.specs.Fault.{value_after}
use Rattle.pg_derivation.proofs.Numbers.{above}
use Rattle.pg_derivation.proofs.words.value_of.Goals as goal

pub returns-then-value-gt-GREATEST : goal.returns-then-value-gt-GREATEST
returns-then-value-gt-GREATEST c =
    sym (above c.args.digits.now c.loop-digit.digit-index c.loop-digit.value (value_after 0 c.args.digits.now) c.loop-digit-test.true (grind (arith, common_steps)) (grind (arith, common_steps)) c.loop-digit.invariant.0)
