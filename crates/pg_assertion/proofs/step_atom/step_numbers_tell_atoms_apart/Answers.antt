use Rattle.pg_assertion.proofs.StepNumbers.{step_numbers_tell_atoms_apart}
use Rattle.pg_assertion.proofs.step_atom.step_numbers_tell_atoms_apart.Goals as goal

pub returns : goal.returns
returns c = step_numbers_tell_atoms_apart
