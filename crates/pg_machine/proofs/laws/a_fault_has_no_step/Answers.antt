use Rattle.pg_machine.proofs.Faults.{fault_has_no_step}
use Rattle.pg_machine.proofs.laws.a_fault_has_no_step.Goals as goal

pub returns : goal.returns
returns c = fault_has_no_step
