use Rattle.pg_views.proofs.Nested.{value_sets_nest}
use Rattle.pg_views.proofs.laws.value_sets_nest.Goals as goal

pub returns : goal.returns
returns c = value_sets_nest
