use Rattle.pg_assertion_text.proofs.Spelling.{crash_spelling_stands}
use Rattle.pg_assertion_text.proofs.laws.crash_spelling_stands.Goals as goal

pub returns : goal.returns
returns c = crash_spelling_stands
