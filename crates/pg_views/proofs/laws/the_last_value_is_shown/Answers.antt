use Rattle.pg_views.proofs.Axioms.{last_is_shown}
use Rattle.pg_views.proofs.laws.the_last_value_is_shown.Goals as goal

pub returns : goal.returns
returns c = last_is_shown
