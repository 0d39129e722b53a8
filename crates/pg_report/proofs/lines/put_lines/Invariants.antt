use Rattle.std.proofs.Common.{length}
use Rattle.pg_report.proofs.Pieces.{IsAhead}
use Rattle.pg_report.proofs.lines.put_lines.Given as goal

abbrev pub invariant-lines : goal.invariant-lines
invariant-lines g l = IsAhead (g.K.Sink.written l.fn.out) (g.K.Sink.written l.out) (g.K.Sink.faults l.fn.out) (g.K.Sink.faults l.out) l.rest l.text

abbrev pub decreases-lines : goal.decreases-lines
decreases-lines g l = length l.rest
