use Rattle.std.proofs.Common.{length}
use Rattle.pg_program.proofs.words.+number_of_bracket.Given as goal

abbrev pub decreases-number_of_bracket : goal.decreases-number_of_bracket
decreases-number_of_bracket l = length l.aux.now
