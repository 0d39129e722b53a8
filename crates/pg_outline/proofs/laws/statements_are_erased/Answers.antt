use Rattle.pg_outline.proofs.EraseGraph.{statements_are_erased}
use Rattle.pg_outline.proofs.laws.statements_are_erased.Goals as goal

pub returns : goal.returns
returns c = statements_are_erased
