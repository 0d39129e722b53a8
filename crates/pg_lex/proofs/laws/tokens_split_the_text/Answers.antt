use Rattle.pg_lex.proofs.Cursors.{tokens_split_text}
use Rattle.pg_lex.proofs.laws.tokens_split_the_text.Goals as goal

pub returns : goal.returns
returns c = tokens_split_text
