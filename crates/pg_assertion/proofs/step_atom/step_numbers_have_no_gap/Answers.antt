use Rattle.pg_assertion.proofs.StepNumbers.{step_numbers_have_no_gap}
use Rattle.pg_assertion.proofs.step_atom.step_numbers_have_no_gap.Goals as goal

pub returns : goal.returns
returns c = step_numbers_have_no_gap
