use Rattle.pg_lex.proofs.Cursors.{munches_most}
use Rattle.pg_lex.proofs.laws.tokens_are_longest.Goals as goal

pub returns : goal.returns
returns c = munches_most
