use Rattle.std.proofs.Common.{◌≡◌, drop}
use Rattle.pg_decider.specs.Assignment.{on}
use Rattle.pg_decider.specs.Split.{any_false}
use Rattle.pg_decider.proofs.split.is_touched.Given as goal

abbrev pub invariant-loop-literal : goal.invariant-loop-literal
invariant-loop-literal l = any_false (on l.trail.literals) l.clause ≡ any_false (on l.trail.literals) (drop l.literal-index l.clause)
