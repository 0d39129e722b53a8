use Rattle.pg_replay.proofs.Unviolated.{safe_shows_none}
use Rattle.pg_replay.proofs.laws.a_safe_outline_shows_no_violation.Goals as goal

pub returns : goal.returns
returns c = safe_shows_none
