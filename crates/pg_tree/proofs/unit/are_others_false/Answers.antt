use Rattle.std.proofs.Common.{arith}
use Rattle.pg_decider.proofs.Visits.{on-read}
use Rattle.pg_tree.proofs.unit.are_others_false.Goals as goal

pub is_true-requires : goal.is_true-requires
is_true-requires c = rw c.negated.ensures (c.requires c.literal-item.result (on-read c.args.clause.now c.loop-literal.literal-index c.literal-item.result (omega arith) c.literal-item.is))
