use Rattle.std.proofs.Common.{length}
use Rattle.pg_program.proofs.words.+sought_in_bracket.Given as goal

abbrev pub decreases-sought_in_bracket : goal.decreases-sought_in_bracket
decreases-sought_in_bracket l = length l.aux.now
