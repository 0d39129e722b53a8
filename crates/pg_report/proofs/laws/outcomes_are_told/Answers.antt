use Rattle.pg_report.proofs.Told.{outcomes-told}
use Rattle.pg_report.proofs.laws.outcomes_are_told.Goals as goal

pub returns : goal.returns
returns c = outcomes-told
