use Rattle.pg_views.proofs.CrashLaw.{persists_where_left}
use Rattle.pg_views.proofs.laws.what_may_persist_is_what_crashes_leave.Goals as goal

pub returns : goal.returns
returns c = persists_where_left
