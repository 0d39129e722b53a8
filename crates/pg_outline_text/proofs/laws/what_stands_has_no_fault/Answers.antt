use Rattle.pg_outline_text.proofs.Answered as law
use Rattle.pg_outline_text.proofs.laws.what_stands_has_no_fault.Goals as goal

pub returns : goal.returns
returns c = law.no_fault_told
