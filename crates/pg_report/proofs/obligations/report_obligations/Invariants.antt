use Rattle.std.proofs.Common.{◌+◌, drop}
use Rattle.pg_obligations.specs.Obligations.{obligations}
use Rattle.pg_report.specs.Obligations.{numbered_text, obligations_text}
use Rattle.pg_report.proofs.Pieces.{IsAhead}
use Rattle.pg_report.proofs.obligations.report_obligations.Given as goal

-- the text behind the first n obligations is still to be put
abbrev pub invariant-obligations : goal.invariant-obligations
invariant-obligations g l =
    IsAhead (g.K.Sink.written l.fn.out) (g.K.Sink.written l.out) (g.K.Sink.faults l.fn.out) (g.K.Sink.faults l.out)
    (numbered_text l.o (l.n + 1) (drop l.n (obligations l.o.program))) (obligations_text l.o)
