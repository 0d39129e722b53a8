use Rattle.pg_views.proofs.Nested.{shown_nests}
use Rattle.pg_views.proofs.laws.shown_values_nest.Goals as goal

pub returns : goal.returns
returns c = shown_nests
