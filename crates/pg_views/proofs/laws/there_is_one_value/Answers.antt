use Rattle.pg_views.proofs.Axioms.{has_one_last_value, has_one_scalar_value}
use Rattle.pg_views.proofs.laws.there_is_one_value.Goals as goal

pub returns : goal.returns
returns c = record { location = has_one_last_value; scalar = has_one_scalar_value }
