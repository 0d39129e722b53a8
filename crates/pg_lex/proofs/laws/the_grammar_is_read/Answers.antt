use Rattle.pg_lex.proofs.Reading.{grammar_is_read}
use Rattle.pg_lex.proofs.laws.the_grammar_is_read.Goals as goal

pub returns : goal.returns
returns c = grammar_is_read
