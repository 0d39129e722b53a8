-- Behind the derivation of an outline that is accepted there is nothing, and behind another the text of its judgement.
use Rattle.pg_app.proofs.Derived.{nothing_puts, judgement_puts}
use Rattle.pg_app.proofs.derive.put_rest.Goals as goal

pub returns-in-Accepted : goal.returns-in-Accepted
returns-in-Accepted g c = rw c.in-Accepted.is (nothing_puts _ _ _)

pub returns-in-Rejected : goal.returns-in-Rejected
returns-in-Rejected g c = judgement_puts c.args.outline.now c.args.judgement.now c.in-Rejected.is c.put_judgement.ensures
