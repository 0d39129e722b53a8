use Rattle.pg_report.specs.Fresh.{absent_line}
use Rattle.pg_report.proofs.FreshLines.{append-from_0}
use Rattle.pg_report.proofs.fresh.append_absent_of.Goals as goal

pub values-preserved : goal.values-preserved
values-preserved c =
    append-from_0 (absent_line c.args.names.now c.args.x) c.values.v c.args.text.now.items c.values.text.items c.append_absent_value.new.text.items c.values.invariant
    c.in_ok-append_absent_value.ensures
