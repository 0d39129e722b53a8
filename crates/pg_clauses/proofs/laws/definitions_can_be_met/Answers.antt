use Rattle.pg_clauses.proofs.Truths.{definitions_met}
use Rattle.pg_clauses.proofs.laws.definitions_can_be_met.Goals as goal

pub returns : goal.returns
returns c = definitions_met
