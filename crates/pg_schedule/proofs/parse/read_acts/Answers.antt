use Rattle.std.proofs.Common.{sym, ◌∙◌, arith}
use Rattle.std.proofs.lemmas.Result.{err_from_is_err_and}
use Rattle.pg_schedule.specs.Reading.{act}
use Rattle.pg_schedule.proofs.Turns.{act_taken, act_counted, no_act}
use Rattle.pg_schedule.proofs.parse.read_acts.Goals as goal

pub acts-preserved : goal.acts-preserved
acts-preserved c =
    let line = c.in-Some.line in
    let ok = c.in_ok-read_act.ensures in
    let one = act_taken c.acts.schedule c.read_act.new.into c.acts.lines c.next_saying.new.self line.number line.words c.in-Some.ensures.line ok in
    let count = act_counted c.acts.schedule c.read_act.new.into line.number (act line.words) ok in
    (sym one ∙ c.acts.invariant.0, omega (arith, count, c.in-Some.ensures.fewer, c.acts.invariant.1))

pub returns-in_err-read_act : goal.returns-in_err-read_act
returns-in_err-read_act c =
    let line = c.in-Some.line in
    let p = err_from_is_err_and c.from_residual.result c.from_residual.ensures.1 in
    rw (p.1, p.2) (λ known. sym c.acts.invariant.0 ∙ no_act c.acts.schedule c.acts.lines c.next_saying.new.self line.number line.words _ c.in-Some.ensures.line (c.in_err-read_act.ensures known))
