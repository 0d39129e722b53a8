use Rattle.pg_tree.proofs.Validity.{unsatisfiable}
use Rattle.pg_tree.proofs.laws.valid_means_unsatisfiable.Goals as goal

pub returns : goal.returns
returns c = unsatisfiable
