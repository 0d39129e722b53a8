-- The derivation that was fetched is answered, or the call ends with its refusal.
use Rattle.pg_app.proofs.Endings.{derivation_ends, derivation_stops}
use Rattle.pg_app.proofs.verify.verify_against.Goals as goal

pub returns-in-Ok-clause-ends : goal.returns-in-Ok-clause-ends
returns-in-Ok-clause-ends g c = derivation_ends c.args.outline.now c.args.name.now c.in-Ok.derivation c.in-Ok.ensures.fetched (rw c.in-Ok.ensures.unwritten at c.check_derivation.ensures)

pub returns-in-Err-clause-ends : goal.returns-in-Err-clause-ends
returns-in-Err-clause-ends g c = derivation_stops c.args.outline.now c.args.name.now c.in-Err.ensures.stops
