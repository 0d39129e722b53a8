use Rattle.pg_axioms.proofs.AxiomsTrue.{axioms_are_true}
use Rattle.pg_axioms.proofs.laws.axioms_are_true.Goals as goal

pub returns : goal.returns
returns c = axioms_are_true
