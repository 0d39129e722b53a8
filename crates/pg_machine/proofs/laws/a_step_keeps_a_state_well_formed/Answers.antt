use Rattle.pg_machine.proofs.WellFormed.{step_keeps}
use Rattle.pg_machine.proofs.laws.a_step_keeps_a_state_well_formed.Goals as goal

pub returns : goal.returns
returns c = step_keeps
