use Rattle.pg_views.proofs.Nested.{reached_nests}
use Rattle.pg_views.proofs.laws.reached_positions_nest.Goals as goal

pub returns : goal.returns
returns c = reached_nests
