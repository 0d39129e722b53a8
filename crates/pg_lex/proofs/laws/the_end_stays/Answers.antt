use Rattle.pg_lex.proofs.Cursors.{end_stays}
use Rattle.pg_lex.proofs.laws.the_end_stays.Goals as goal

pub returns : goal.returns
returns c = end_stays
