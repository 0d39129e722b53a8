use Rattle.pg_derivation.proofs.Found.{found_is_spelled}
use Rattle.pg_derivation.proofs.laws.texts_without_a_fault_are_spelled.Goals as goal

pub returns : goal.returns
returns c = found_is_spelled
