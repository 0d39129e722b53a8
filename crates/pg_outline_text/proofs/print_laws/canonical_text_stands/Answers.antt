use Rattle.pg_outline_text.proofs.SpellingOutlines.{canonical_text_stands}
use Rattle.pg_outline_text.proofs.print_laws.canonical_text_stands.Goals as goal

pub returns : goal.returns
returns c = canonical_text_stands
