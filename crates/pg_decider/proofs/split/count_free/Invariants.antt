use Rattle.std.proofs.Common.{◌≡◌, ◌≤◌, ◌+◌, drop}
use Rattle.pg_decider.specs.Assignment.{on}
use Rattle.pg_decider.specs.Split.{free_count}
use Rattle.pg_decider.proofs.split.count_free.Given as goal

abbrev pub invariant-loop-i : goal.invariant-loop-i
invariant-loop-i l = (free_count (on l.trail.literals) l.clause ≡ l.count + free_count (on l.trail.literals) (drop l.i l.clause)) × (l.count ≤ l.i)
