use Rattle.std.proofs.Common.{◌≡◌, drop}
use Rattle.pg_decider.specs.Assignment.{on}
use Rattle.pg_decider.specs.Split.{first_free}
use Rattle.pg_tree.proofs.unit.free_literal.Given as goal

abbrev pub invariant-loop-literal : goal.invariant-loop-literal
invariant-loop-literal l = first_free (on l.path.literals) l.clause ≡ first_free (on l.path.literals) (drop l.literal-index l.clause)
