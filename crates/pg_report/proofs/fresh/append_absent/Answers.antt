use Rattle.pg_report.specs.Fresh.{absent_lines_of}
use Rattle.pg_report.proofs.FreshLines.{append-from_0}
use Rattle.pg_report.proofs.fresh.append_absent.Goals as goal

pub locations-preserved : goal.locations-preserved
locations-preserved c =
    append-from_0 (absent_lines_of c.args.p.now.names) c.locations.x c.args.text.now.items c.locations.text.items c.append_absent_of.new.text.items c.locations.invariant
    (rw c.names-in-locations.ensures.names at c.in_ok-append_absent_of.ensures)
