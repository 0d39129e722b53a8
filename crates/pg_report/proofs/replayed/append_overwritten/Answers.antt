use Rattle.std.proofs.Common.{codes, decimal}
use Rattle.pg_report.specs.Replayed.{two_numbers}
use Rattle.pg_report.proofs.Located.{located}
use Rattle.pg_report.proofs.replayed.append_overwritten.Goals as goal

pub returns : goal.returns
returns c =
    located c.args.line.now.items (codes "refused line ") (decimal c.args.at) (codes " ") (codes "overwritten ") c.args.name.now (codes " ")
    (two_numbers c.args.p c.args.later) (codes "\n") c.append_location.new.line.items c.append_two.new.line.items c.in_ok-append_location.ensures c.in_ok-append_two.ensures
