use Rattle.std.proofs.Common.{◌-◌}
use Rattle.std.specs.List.{flat_map, range_with_len}
use Rattle.pg_region.specs.Sink.{Appended}
use Rattle.pg_tables.specs.Clause.{written}
use Rattle.pg_tables.proofs.table.each.Given as goal

abbrev pub invariant-loop-k : goal.invariant-loop-k
invariant-loop-k g l =
    Appended (g.S.ClauseSink.view l.fn.into) (g.S.ClauseSink.view l.into)
    (written l.setting (flat_map (λ k. g.F.Rows.rows l.setting.layout l.rows (l.i, k)) (range_with_len l.from (l.k - l.from))))
