use Rattle.pg_outline_text.proofs.Answered as law
use Rattle.pg_outline_text.proofs.laws.a_text_stands_for_one_outline.Goals as goal

pub returns : goal.returns
returns c = law.one_reading
