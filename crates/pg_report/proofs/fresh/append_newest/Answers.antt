use Rattle.std.proofs.Common.{arith}
use Rattle.pg_report.specs.Fresh.{own_newest_lines}
use Rattle.pg_report.proofs.FreshLines.{append-from_1}
use Rattle.pg_report.proofs.fresh.append_newest.Goals as goal

pub threads-preserved : goal.threads-preserved
threads-preserved c =
    append-from_1 (own_newest_lines c.args.p.now.names) c.threads.t c.args.text.now.items c.threads.text.items c.append_newest_of.new.text.items (omega arith) c.threads.invariant
    (rw c.names.ensures.names at c.in_ok-append_newest_of.ensures)
