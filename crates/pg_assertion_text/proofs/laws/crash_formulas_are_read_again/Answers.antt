use Rattle.pg_assertion_text.proofs.Again.{crash_formulas_read_again}
use Rattle.pg_assertion_text.proofs.laws.crash_formulas_are_read_again.Goals as goal

pub returns : goal.returns
returns c = crash_formulas_read_again
