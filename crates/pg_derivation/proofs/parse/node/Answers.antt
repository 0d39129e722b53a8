use Rattle.std.proofs.Common.{◌≡◌, true, sym, ◌∙◌}
use Rattle.std.specs.Prelude.{codes}
use Rattle.pg_derivation.specs.Fault.{says}
use Rattle.pg_derivation.specs.Place.{cursor}
use Rattle.pg_derivation.proofs.parse.node.Goals as goal

pub returns-then-says-clause-said : goal.returns-then-says-clause-said
returns-then-says-clause-said c =
    let yes : says (codes "split") (cursor c.args.place.now) ≡ true = sym c.says.ensures ∙ c.if-says.true in
    rw yes (c.split_line.ensures.said c.args.kept.now.items)
