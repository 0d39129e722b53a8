use Rattle.std.proofs.Common.{arith}
use Rattle.pg_decider.proofs.Visits.{on-read}
use Rattle.pg_tree.proofs.unit.free_literal.Goals as goal

pub is_free-requires : goal.is_free-requires
is_free-requires c = c.requires c.literal-item.result (on-read c.args.clause.now c.loop-literal.literal-index c.literal-item.result (omega arith) c.literal-item.is)
