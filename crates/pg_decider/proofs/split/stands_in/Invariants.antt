use Rattle.std.proofs.Common.{◌≡◌, drop}
use Rattle.pg_decider.specs.Assignment.{on}
use Rattle.pg_decider.proofs.split.stands_in.Given as goal

abbrev pub invariant-loop-other : goal.invariant-loop-other
invariant-loop-other l = on l.clause l.literal ≡ on (drop l.other-index l.clause) l.literal
