use Rattle.pg_obligations.proofs.Along.{hold_along}
use Rattle.pg_obligations.proofs.laws.kept_claims_hold_along.Goals as goal

pub returns : goal.returns
returns c = hold_along
