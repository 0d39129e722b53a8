use Rattle.pg_clauses.proofs.Truths.{definitions_tell}
use Rattle.pg_clauses.proofs.laws.definitions_tell_the_truth.Goals as goal

pub returns : goal.returns
returns c = definitions_tell
