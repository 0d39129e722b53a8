use Rattle.pg_obligations.proofs.Follows.{follow_is_safe}
use Rattle.pg_obligations.proofs.laws.all_follow_is_safe.Goals as goal

pub returns : goal.returns
returns c = follow_is_safe
