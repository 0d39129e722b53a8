use Rattle.pg_program_text.proofs.SpellingExprs as law
use Rattle.pg_program_text.proofs.laws.expressions_stand.Goals as goal

pub returns : goal.returns
returns c = law.expressions_stand
