use Rattle.std.proofs.Common.{length}
use Rattle.pg_machine.proofs.row.+assign.Given as goal

abbrev pub decreases-assign : goal.decreases-assign
decreases-assign l = length l.bracket.now
