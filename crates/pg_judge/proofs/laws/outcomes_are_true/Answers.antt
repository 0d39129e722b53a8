use Rattle.pg_judge.proofs.Said.{outcome-true}
use Rattle.pg_judge.proofs.laws.outcomes_are_true.Goals as goal

pub returns : goal.returns
returns c = outcome-true
