use Rattle.std.proofs.Common.{codes, decimal}
use Rattle.pg_report.proofs.Located.{located}
use Rattle.pg_report.proofs.replayed.append_unknown.Goals as goal

pub returns : goal.returns
returns c =
    located c.args.line.now.items (codes "refused line ") (decimal c.args.at) (codes " ") (codes "not a position ") c.args.name.now (codes " ") (decimal c.args.p) (codes "\n")
    c.append_location.new.line.items c.append_line.new.text.items c.in_ok-append_location.ensures c.in_ok-append_line.ensures
