use Rattle.pg_assertion_text.proofs.Again.{formulas_read_again}
use Rattle.pg_assertion_text.proofs.laws.formulas_are_read_again.Goals as goal

pub returns : goal.returns
returns c = formulas_read_again
