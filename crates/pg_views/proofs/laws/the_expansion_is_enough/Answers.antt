use Rattle.pg_views.proofs.CrashLaw.{expansion_is_enough}
use Rattle.pg_views.proofs.laws.the_expansion_is_enough.Goals as goal

pub returns : goal.returns
returns c = expansion_is_enough
