use Rattle.pg_views.proofs.CrashLaw.{expansion_is_exact}
use Rattle.pg_views.proofs.laws.the_expansion_is_exact.Goals as goal

pub returns : goal.returns
returns c = expansion_is_exact
