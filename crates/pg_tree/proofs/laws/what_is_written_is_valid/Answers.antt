use Rattle.pg_tree.proofs.Validity.{written-valid}
use Rattle.pg_tree.proofs.laws.what_is_written_is_valid.Goals as goal

pub returns : goal.returns
returns c = written-valid
