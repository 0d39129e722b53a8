use Rattle.pg_views.proofs.Axioms.{newest_read_is_last}
use Rattle.pg_views.proofs.laws.the_newest_read_is_the_last_value.Goals as goal

pub returns : goal.returns
returns c = newest_read_is_last
