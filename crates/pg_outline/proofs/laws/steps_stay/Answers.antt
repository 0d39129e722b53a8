use Rattle.pg_outline.proofs.EraseGraph.{steps_stay}
use Rattle.pg_outline.proofs.laws.steps_stay.Goals as goal

pub returns : goal.returns
returns c = steps_stay
