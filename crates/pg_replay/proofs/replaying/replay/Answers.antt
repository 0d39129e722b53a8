-- Line after line the replay goes on, up to the last line or to one that ends it.
use Rattle.std.proofs.Common.{◌<◌, length, Option, Ok, Err, ap, subst, ◌∙◌, arith}
use Rattle.std.proofs.lemmas.Result.{err_from_is_err_and}
use Rattle.pg_program.specs.Program.{ProgramTable}
use Rattle.pg_machine.specs.State.{IsWellFormed, fresh}
use Rattle.pg_schedule.specs.Held.{act_lent}
use Rattle.pg_replay.specs.declared.answer.Violation.{Violation}
use Rattle.pg_replay.specs.declared.answer.Replayed.{Replayed}
use Rattle.pg_replay.proofs.Going.{lines-past, said_at, going-first, going-next, going-end, going-fault, unbegun}
use Rattle.pg_replay.proofs.replaying.replay.Goals as goal

pub returns-in_err-state-clause-trace : goal.returns-in_err-state-clause-trace
returns-in_err-state-clause-trace g c =
    let p = err_from_is_err_and c.from_residual.result c.from_residual.ensures.1 in
    rw (p.1, p.2) (unbegun c.args.o.now c.args.s.now (g.K.Sink.written c.args.out.now))

pub lines-init : goal.lines-init
lines-init g c =
    let state = c.in_ok-state.state.state in
    let formed = subst (λ (p : ProgramTable). IsWellFormed p state) c.program.ensures.program c.in_ok-state.ensures.formed in
    let found = ap (λ (v : Option Violation). let r : Replayed = record { steps = 0; first_violation = v } in r) c.first_in_state.ensures in
    going-first c.args.o.now c.args.s.now state (record { steps = 0; first_violation = c.first_in_state.result }) (g.K.Sink.written c.args.out.now) (g.K.Sink.faults c.args.out.now)
    formed (c.in_ok-state.ensures.state ∙ ap fresh c.program.ensures.program) found

pub returns-in_err-found-clause-trace : goal.returns-in_err-found-clause-trace
returns-in_err-found-clause-trace g c =
    let p = err_from_is_err_and c.from_residual-in_err-found.result c.from_residual-in_err-found.ensures.1 in
    let o = c.args.o.now in
    let s = c.args.s.now in
    let k = c.lines.k in
    let f = c.in_err-found.field-0.0 in
    let state = c.lines.state.state in
    let next = c.replay_line.new.state.state in
    let old = g.K.Sink.written c.args.out.now in
    let mid = g.K.Sink.written c.lines.out in
    let new = g.K.Sink.written c.replay_line.new.out in
    let before = g.K.Sink.faults c.args.out.now in
    let between = g.K.Sink.faults c.lines.out in
    let now = g.K.Sink.faults c.replay_line.new.out in
    let count = c.len-k-end.ensures.count in
    let test = c.lines-test.true in
    let less : k < length s = omega (arith, count, test) in
    let said = said_at o s k c.line.result (act_lent c.act.result) c.lines.found state next (Err f) mid new between now c.line.ensures c.act.ensures.act c.in_err-found.ensures.line in
    rw (p.1, p.2) (going-fault o s k state next c.lines.found old mid new before between now f c.lines.invariant less said)

pub lines-preserved : goal.lines-preserved
lines-preserved g c =
    let o = c.args.o.now in
    let s = c.args.s.now in
    let k = c.lines.k in
    let mid = g.K.Sink.written c.lines.out in
    let new = g.K.Sink.written c.replay_line.new.out in
    let between = g.K.Sink.faults c.lines.out in
    let now = g.K.Sink.faults c.replay_line.new.out in
    let count = c.len-k-end.ensures.count in
    let test = c.lines-test.true in
    let less : k < length s = omega (arith, count, test) in
    let said = said_at o s k c.line.result (act_lent c.act.result) c.lines.found c.lines.state.state c.replay_line.new.state.state (Ok c.in_ok-found.found) mid new between now
    c.line.ensures c.act.ensures.act c.in_ok-found.ensures.line in
    going-next c.in_ok-found.found c.lines.invariant less said c.in_ok-found.ensures.faults c.in_ok-found.ensures.kept c.in_ok-found.ensures.steps

pub returns-clause-trace : goal.returns-clause-trace
returns-clause-trace g c =
    let count = c.len-k-end.ensures.count in
    let test = c.lines-test.false in
    going-end c.lines.invariant (lines-past c.args.s.now c.lines.k (omega (arith, count, test)))
