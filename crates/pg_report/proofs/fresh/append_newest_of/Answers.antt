use Rattle.pg_assertion.specs.declared.atom.ViewAtom.TheVariants.{Newest}
use Rattle.pg_report.specs.Fresh.{true_line}
use Rattle.pg_report.proofs.FreshLines.{append-from_0}
use Rattle.pg_report.proofs.fresh.append_newest_of.Goals as goal

pub locations-preserved : goal.locations-preserved
locations-preserved c =
    append-from_0 (λ x. true_line c.args.names.now (Newest c.args.t x)) c.locations.x c.args.text.now.items c.locations.text.items c.append_true.new.text.items c.locations.invariant
    c.in_ok-append_true.ensures
