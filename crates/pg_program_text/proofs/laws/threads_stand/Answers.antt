use Rattle.pg_program_text.proofs.SpellingThreads as law
use Rattle.pg_program_text.proofs.laws.threads_stand.Goals as goal

pub returns : goal.returns
returns c = law.threads_stand
