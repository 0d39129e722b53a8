use Rattle.pg_machine.proofs.WellFormed.{fresh_is_well_formed}
use Rattle.pg_machine.proofs.laws.the_fresh_state_is_well_formed.Goals as goal

pub returns : goal.returns
returns c = fresh_is_well_formed
