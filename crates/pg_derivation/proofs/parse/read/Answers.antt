use Rattle.pg_derivation.specs.Place.{cursor}
use Rattle.pg_derivation.proofs.Whole.{all-said}
use Rattle.pg_derivation.proofs.parse.read.Goals as goal

pub returns : goal.returns
returns c =
    all-said c.args.text.now (cursor c.in_ok-from.from) (cursor c.in_ok-after.after) (cursor c.in_ok-closing.field-0) _ c.of.result c.in_ok-from.ensures.said c.in_ok-after.ensures.said c.in_ok-closing.ensures.said c.of.ensures
