use Rattle.pg_tree.proofs.Validity.{no-fault-valid}
use Rattle.pg_tree.proofs.laws.no_fault_means_valid.Goals as goal

pub returns : goal.returns
returns c = no-fault-valid
