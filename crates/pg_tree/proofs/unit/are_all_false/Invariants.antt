use Rattle.std.proofs.Common.{◌≡◌, drop}
use Rattle.pg_decider.specs.Assignment.{on}
use Rattle.pg_tree.specs.Fault.{all_false}
use Rattle.pg_tree.proofs.unit.are_all_false.Given as goal

abbrev pub invariant-loop-literal : goal.invariant-loop-literal
invariant-loop-literal l = all_false (on l.path.literals) l.clause ≡ all_false (on l.path.literals) (drop l.literal-index l.clause)
