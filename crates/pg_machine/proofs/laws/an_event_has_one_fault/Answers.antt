use Rattle.pg_machine.proofs.Faults.{one_fault}
use Rattle.pg_machine.proofs.laws.an_event_has_one_fault.Goals as goal

pub returns : goal.returns
returns c = one_fault
