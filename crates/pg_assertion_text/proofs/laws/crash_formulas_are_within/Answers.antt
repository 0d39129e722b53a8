use Rattle.pg_assertion_text.proofs.Within as law
use Rattle.pg_assertion_text.proofs.laws.crash_formulas_are_within.Goals as goal

pub returns : goal.returns
returns c = law.crash_formulas_are_within
