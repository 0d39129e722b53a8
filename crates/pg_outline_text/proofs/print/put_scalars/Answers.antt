use Rattle.std.proofs.Common.{arith}
use Rattle.pg_outline_text.proofs.SpellingParts.{scalar_printed, scalars_printed}
use Rattle.pg_outline_text.proofs.print.put_scalars.Goals as goal

pub scalars-preserved : goal.scalars-preserved
scalars-preserved c =
    let count = c.scalars-r-end.ensures.count in
    let here = c.scalars-test.true in
    scalar_printed c.args.names.now.scalars c.scalars.r c.scalars.into.items c.put_scalar.new.into.items _ (omega (arith, here, count)) c.in_ok-put_scalar.ensures c.scalars.invariant

pub returns : goal.returns
returns c =
    let count = c.scalars-r-end.ensures.count in
    let past = c.scalars-test.false in
    scalars_printed c.args.names.now.scalars c.scalars.r c.scalars.into.items _ (omega (arith, past, count)) c.scalars.invariant
