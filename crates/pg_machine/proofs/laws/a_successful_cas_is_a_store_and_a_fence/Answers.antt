use Rattle.pg_machine.proofs.WellFormed.{swap_is_store_then_fence}
use Rattle.pg_machine.proofs.laws.a_successful_cas_is_a_store_and_a_fence.Goals as goal

pub returns : goal.returns
returns c = swap_is_store_then_fence
