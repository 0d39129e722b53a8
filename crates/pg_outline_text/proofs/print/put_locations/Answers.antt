use Rattle.std.proofs.Common.{◌∙◌, arith}
use Rattle.pg_outline_text.proofs.SpellingParts.{locations_more}
use Rattle.pg_outline_text.proofs.print.put_locations.Goals as goal

pub locations-preserved : goal.locations-preserved
locations-preserved c =
    let count = c.locations-x-end.ensures.count in
    let here = c.locations-test.true in
    locations_more c.args.names.now.locations c.locations.x c.locations.into.items c.put_location.new.into.items (omega (arith, here, count)) c.in_ok-put_location.ensures ∙ c.locations.invariant
