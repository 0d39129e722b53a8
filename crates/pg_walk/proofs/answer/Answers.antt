use Rattle.std.proofs.Common.{ℕ, Result, Ok, Err, IfOk, Vec, Global}
use Rattle.pg_outline.specs.Outline.{OutlineTable}
use Rattle.pg_outline_text.specs.Text.{StandsFor}
use Rattle.pg_walk.specs.Answer.{IsAnswer, IsAnswerOn}
use Rattle.pg_walk.proofs.answer.Goals as goal

pub returns : goal.returns
returns c =
    by c.answer_on.result (rw c.program.ensures.program at c.answer_on.ensures)
  where
    o : OutlineTable
    o = c.in_ok-outline.outline

    stands : StandsFor c.args.outline.now o
    stands = rw c.in_ok-outline.ensures at c.parse_outline.ensures.found

    by : {E : Type 0} (r : Result (Vec ℕ Global) E) → IfOk r (λ told. IsAnswerOn o.program c.args.schedule.now c.args.question.now told.items)
        → IfOk r (λ told. IsAnswer c.args.outline.now c.args.schedule.now c.args.question.now told.items)
    by (Ok told) h = (o, stands, h)
    by (Err e) h = tt
