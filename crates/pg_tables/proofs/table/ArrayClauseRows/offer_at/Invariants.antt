use Rattle.std.proofs.Common.{take}
use Rattle.pg_region.specs.Sink.{Appended}
use Rattle.pg_tables.specs.Clause.{written}
use Rattle.pg_tables.proofs.table.ArrayClauseRows.offer_at.Given as goal

abbrev pub invariant-loop-clause : goal.invariant-loop-clause
invariant-loop-clause g l = Appended (g.S.ClauseSink.view l.fn.into) (g.S.ClauseSink.view l.into) (written l.setting (take l.clause-index l.self))
