use Rattle.std.proofs.Common.{arith}
use Rattle.pg_decider.proofs.Visits.{on-read}
use Rattle.pg_decider.proofs.split.count_free.Goals as goal

pub is_free-requires : goal.is_free-requires
is_free-requires c = c.requires _ (on-read c.args.clause.now c.loop-i.i _ (omega arith) c.index-clause-i.is)
