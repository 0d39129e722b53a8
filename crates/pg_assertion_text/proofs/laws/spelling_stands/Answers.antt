use Rattle.pg_assertion_text.proofs.Spelling.{spelling_stands}
use Rattle.pg_assertion_text.proofs.laws.spelling_stands.Goals as goal

pub returns : goal.returns
returns c = spelling_stands
