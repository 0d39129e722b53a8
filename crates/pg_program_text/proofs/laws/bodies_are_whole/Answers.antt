use Rattle.pg_program_text.proofs.Whole as law
use Rattle.pg_program_text.proofs.laws.bodies_are_whole.Goals as goal

pub returns : goal.returns
returns c = law.bodies_are_whole
