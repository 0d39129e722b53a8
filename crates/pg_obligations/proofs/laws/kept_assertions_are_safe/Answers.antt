use Rattle.pg_obligations.proofs.Along.{kept_is_safe}
use Rattle.pg_obligations.proofs.laws.kept_assertions_are_safe.Goals as goal

pub returns : goal.returns
returns c = kept_is_safe
