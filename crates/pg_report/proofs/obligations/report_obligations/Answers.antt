-- Each obligation's text is put behind those before it.
use Rattle.std.proofs.Common.{◌-◌, ◌+◌, drop}
use Rattle.std.proofs.lemmas.Result.{err_from_is_err_and}
use Rattle.pg_obligations.specs.Obligations.{obligations}
use Rattle.pg_report.specs.Obligations.{obligation_text, numbered_text, obligations_text}
use Rattle.pg_report.proofs.Pieces.{ahead-next, ahead-fault}
use Rattle.pg_report.proofs.Numbered.{ahead-obligation}
use Rattle.pg_report.proofs.Within.{placed_at}
use Rattle.pg_report.proofs.obligations.report_obligations.Goals as goal

pub report_obligation-requires : goal.report_obligation-requires
report_obligation-requires g c =
    placed_at c.args.o.now.program (c.obligations.n + 1 - 1) c.shape.result (rw c.of-obligations.ensures at c.shape.ensures)

pub returns-in_err-report_obligation-clause-lines : goal.returns-in_err-report_obligation-clause-lines
returns-in_err-report_obligation-clause-lines g c =
    let p = err_from_is_err_and c.from_residual.result c.from_residual.ensures.1 in
    let o = c.args.o.now in
    let n = c.obligations.n in
    let old = g.K.Sink.written c.args.out.now in
    let mid = g.K.Sink.written c.obligations.out in
    let before = g.K.Sink.faults c.args.out.now in
    let between = g.K.Sink.faults c.obligations.out in
    let ahead = ahead-obligation old mid before between (obligations_text o) o (obligations o.program) n c.shape.result
    (rw c.of-obligations.ensures at c.shape.ensures) c.obligations.invariant in
    rw (p.1, p.2)
    (ahead-fault old mid (g.K.Sink.written c.report_obligation.new.out) before between (g.K.Sink.faults c.report_obligation.new.out) (obligations_text o)
    c.in_err-report_obligation.field-0.0 (obligation_text o (n + 1) c.shape.result) (numbered_text o (n + 1 + 1) (drop (n + 1) (obligations o.program)))
    ahead c.in_err-report_obligation.ensures.lines)

pub obligations-preserved : goal.obligations-preserved
obligations-preserved g c =
    let o = c.args.o.now in
    let n = c.obligations.n in
    let ahead = ahead-obligation (g.K.Sink.written c.args.out.now) (g.K.Sink.written c.obligations.out) (g.K.Sink.faults c.args.out.now) (g.K.Sink.faults c.obligations.out)
    (obligations_text o) o (obligations o.program) n c.shape.result (rw c.of-obligations.ensures at c.shape.ensures) c.obligations.invariant in
    ahead-next (obligation_text o (n + 1) c.shape.result) (numbered_text o (n + 1 + 1) (drop (n + 1) (obligations o.program))) ahead
    c.in_ok-report_obligation.ensures.lines c.in_ok-report_obligation.ensures.faults
