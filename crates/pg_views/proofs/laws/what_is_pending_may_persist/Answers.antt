use Rattle.pg_views.proofs.Axioms.{pending_may_persist}
use Rattle.pg_views.proofs.laws.what_is_pending_may_persist.Goals as goal

pub returns : goal.returns
returns c = pending_may_persist
