use Rattle.pg_program_text.proofs.Whole as law
use Rattle.pg_program_text.proofs.laws.texts_speak_of_names.Goals as goal

pub returns : goal.returns
returns c = law.texts_speak_of_names
