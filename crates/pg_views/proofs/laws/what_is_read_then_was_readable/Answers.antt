use Rattle.pg_views.proofs.Axioms.{then_was_readable}
use Rattle.pg_views.proofs.laws.what_is_read_then_was_readable.Goals as goal

pub returns : goal.returns
returns c = then_was_readable
