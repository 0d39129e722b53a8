use Rattle.std.proofs.Common.{◌≡◌, ℕ, length, subst, arith}
use Rattle.pg_assertion.specs.Formula.{plain}
use Rattle.pg_schedule.specs.Held.{act_lent}
use Rattle.pg_walk.specs.Told.{Walks}
use Rattle.pg_walk.proofs.Walked.{walks-next}
use Rattle.pg_walk.proofs.walk.walk.Goals as goal

pub lines-preserved : goal.lines-preserved
lines-preserved c =
    let takes = c.in_ok-take_line.ensures in (
      takes.kept,
      walks-next c.args.program.now (plain c.args.question.now) c.args.schedule.now c.lines.k c.line-line.result (act_lent c.act.result)
          c.lines.state.state c.take_line.new.state.state c.lines.told.items c.take_line.new.told.items
          c.line-line.ensures c.act.ensures.act c.lines.invariant.1 takes.takes takes.told,
    )

pub returns : goal.returns
returns c =
    let lines = c.args.schedule.now in
    let count = c.len-k-end.ensures.count in
    let past = c.lines-test.false in
    let within = c.lines.auto.k-end in
    let whole : c.lines.k ≡ length lines = omega (arith, count, past, within) in
    (c.lines.state.state, subst (λ (k : ℕ). Walks c.args.program.now (plain c.args.question.now) lines k c.lines.state.state c.lines.told.items) whole c.lines.invariant.1)
