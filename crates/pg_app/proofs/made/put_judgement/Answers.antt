-- The text of the judgement is put whole, or a prefix of it.
use Rattle.pg_judge.specs.Outcome.{outcome_of}
use Rattle.pg_report.specs.Made.{made_text}
use Rattle.pg_app.specs.Answer.{status_of}
use Rattle.pg_app.proofs.Puts.{report_puts}
use Rattle.pg_app.proofs.made.put_judgement.Goals as goal

pub returns : goal.returns
returns g c =
    let outcome = outcome_of c.args.judgement.now in
    rw (c.reported.ensures, c.judgement_status-status.ensures)
    (report_puts (made_text c.args.statements c.args.outline.now outcome) c.report_made-report.result (status_of outcome) _ _ _ _ c.report_made-report.ensures.lines)
