use Rattle.pg_judge.proofs.Unique.{outcome-unique}
use Rattle.pg_judge.proofs.laws.an_outline_has_one_outcome.Goals as goal

pub returns : goal.returns
returns c = outcome-unique
