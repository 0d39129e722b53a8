use Rattle.pg_outline_text.proofs.Answered as law
use Rattle.pg_outline_text.proofs.laws.a_text_without_a_fault_can_be_made.Goals as goal

pub returns : goal.returns
returns c = law.faultless_is_ready
