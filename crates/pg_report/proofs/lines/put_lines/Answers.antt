-- What is behind the first line is still to be put.
use Rattle.std.proofs.Common.{Err}
use Rattle.std.proofs.lemmas.Result.{err_from_is_err_and}
use Rattle.pg_report.proofs.Pieces.{ahead-split, ahead-next, ahead-fault, line_of_lines}
use Rattle.pg_report.proofs.lines.put_lines.Goals as goal

pub returns-in_err-put_line-clause-lines : goal.returns-in_err-put_line-clause-lines
returns-in_err-put_line-clause-lines g c =
    let p = err_from_is_err_and c.from_residual.result c.from_residual.ensures.1 in
    let front = c.split_at.result.0.now in
    let behind = c.split_at.result.1.now in
    let ahead = ahead-split c.first_line.result c.lines.rest.now front behind c.lines.invariant c.split_at.ensures.front c.split_at.ensures.back in
    let fault = c.in_err-put_line.field-0.0 in
    let old = g.K.Sink.written c.args.out.now in
    let mid = g.K.Sink.written c.lines.out in
    let new = g.K.Sink.written c.put_line.new.out in
    let before = g.K.Sink.faults c.args.out.now in
    let between = g.K.Sink.faults c.lines.out in
    let now = g.K.Sink.faults c.put_line.new.out in
    rw (p.1, p.2)
    (ahead-fault old mid new before between now c.args.text.now fault front behind ahead (line_of_lines mid new between now front (Err fault) c.in_err-put_line.ensures.line))

pub lines-preserved : goal.lines-preserved
lines-preserved g c =
    let front = c.split_at.result.0.now in
    let behind = c.split_at.result.1.now in
    let ahead = ahead-split c.first_line.result c.lines.rest.now front behind c.lines.invariant c.split_at.ensures.front c.split_at.ensures.back in
    ahead-next front behind ahead c.in_ok-put_line.ensures.line c.in_ok-put_line.ensures.faults
