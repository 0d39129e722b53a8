use Rattle.pg_views.proofs.Nested.{reached_is_up_set}
use Rattle.pg_views.proofs.laws.reached_positions_are_an_up_set.Goals as goal

pub returns : goal.returns
returns c = reached_is_up_set
