use Rattle.std.proofs.Common.{◌≡◌, drop}
use Rattle.pg_decider.specs.Assignment.{on}
use Rattle.pg_decider.specs.Split.{first_free}
use Rattle.pg_decider.proofs.split.free_literal.Given as goal

abbrev pub invariant-loop-literal : goal.invariant-loop-literal
invariant-loop-literal l = first_free (on l.trail.literals) l.clause ≡ first_free (on l.trail.literals) (drop l.literal-index l.clause)
