use Rattle.pg_lex.proofs.Cursors.{tokens_shorten_rest}
use Rattle.pg_lex.proofs.laws.tokens_shorten_the_rest.Goals as goal

pub returns : goal.returns
returns c = tokens_shorten_rest
