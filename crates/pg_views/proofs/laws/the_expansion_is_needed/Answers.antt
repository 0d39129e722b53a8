use Rattle.pg_views.proofs.CrashLaw.{expansion_is_needed}
use Rattle.pg_views.proofs.laws.the_expansion_is_needed.Goals as goal

pub returns : goal.returns
returns c = expansion_is_needed
