-- The line of the one answer is put.
use Rattle.pg_app.proofs.Checked.{checked_puts}
use Rattle.pg_app.proofs.verify.check_derivation.Goals as goal

pub returns : goal.returns
returns g c =
    checked_puts c.args.outline.now c.args.derivation.now c.verify-answer.result c.verify-answer.ensures.answer (rw c.if-ran_out.false at c.ran_out.ensures) c.verify-answer.ensures.proved
    c.put_answer.ensures
