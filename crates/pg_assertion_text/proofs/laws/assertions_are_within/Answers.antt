use Rattle.pg_assertion_text.proofs.Within as law
use Rattle.pg_assertion_text.proofs.laws.assertions_are_within.Goals as goal

pub returns : goal.returns
returns c = law.assertions_are_within
