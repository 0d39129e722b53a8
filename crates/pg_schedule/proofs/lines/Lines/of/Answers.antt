use Rattle.std.proofs.Common.{arith}
use Rattle.pg_schedule.specs.Words.{pieces, is_newline}
use Rattle.pg_schedule.proofs.Cuts.{lines_few, pieces_few}
use Rattle.pg_schedule.proofs.lines.Lines.of.Goals as goal

pub returns-clause-few : goal.returns-clause-few
returns-clause-few c =
    omega (arith, lines_few 1 (pieces is_newline 0 c.args.text.now), pieces_few is_newline 0 c.args.text.now, c.requires)
