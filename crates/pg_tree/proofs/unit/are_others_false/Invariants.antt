use Rattle.std.proofs.Common.{◌≡◌, drop}
use Rattle.pg_decider.specs.Assignment.{on}
use Rattle.pg_tree.specs.Fault.{others_false}
use Rattle.pg_tree.proofs.unit.are_others_false.Given as goal

abbrev pub invariant-loop-literal : goal.invariant-loop-literal
invariant-loop-literal l = others_false (on l.path.literals) l.but l.clause ≡ others_false (on l.path.literals) l.but (drop l.literal-index l.clause)
