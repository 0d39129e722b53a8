use Rattle.pg_layers.proofs.Law.{clauses_decide}
use Rattle.pg_layers.proofs.laws.clauses_decide_obligations.Goals as goal

pub returns : goal.returns
returns c = clauses_decide
