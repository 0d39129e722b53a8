use Rattle.pg_region.proofs.Sinks.{taken}
use Rattle.pg_region.proofs.sink.RegionClauseSink.clause.Goals as goal

pub returns-in-Ok : goal.returns-in-Ok
returns-in-Ok c = rw (c.in-Ok.ensures.ok.2) (taken _ _ c.in-Ok.ensures.ok.0)
