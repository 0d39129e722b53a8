-- The text of the obligations is put whole, or a prefix of it.
use Rattle.std.proofs.Common.{◌≡◌}
use Rattle.pg_report.specs.Obligations.{obligations_text}
use Rattle.pg_app.specs.Answer.{IsListed}
use Rattle.pg_app.specs.Put.{status_after}
use Rattle.pg_app.proofs.Puts.{puts_map, report_puts}
use Rattle.pg_app.proofs.put.list_obligations.Goals as goal

pub returns : goal.returns
returns g c =
    let text = obligations_text c.args.outline.now in
    rw c.reported.ensures
    (puts_map (λ due line. (due ≡ 0) × (line ≡ text)) (IsListed c.args.outline.now) (λ s line same. record { status_is = same.0; text_is = same.1 })
    (status_after c.report_obligations.result 0) _ _ _ _ (report_puts text c.report_obligations.result 0 _ _ _ _ c.report_obligations.ensures.lines))
