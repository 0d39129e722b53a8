-- The text of the judgement that was reached is put.
use Rattle.pg_judge.specs.Outcome.{outcome_of}
use Rattle.pg_app.specs.Answer.{IsJudgement}
use Rattle.pg_app.proofs.Judged.{judged_puts}
use Rattle.pg_app.proofs.judge.judge_outline.Goals as goal

pub returns-in-Ok : goal.returns-in-Ok
returns-in-Ok g c =
    judged_puts IsJudgement c.args.outline.now c.args.budget (outcome_of c.in-Ok.judgement) c.in-Ok.ensures.outcome c.in-Ok.ensures.says c.put_judgement.ensures
