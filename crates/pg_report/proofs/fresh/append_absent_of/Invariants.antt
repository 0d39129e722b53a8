use Rattle.std.proofs.Common.{◌≡◌, ◌++◌}
use Rattle.std.specs.List.{flat_map, range_with_len}
use Rattle.pg_report.specs.Fresh.{absent_line}
use Rattle.pg_report.proofs.fresh.append_absent_of.Given as goal

abbrev pub invariant-values : goal.invariant-values
invariant-values l = l.text.items ≡ l.initial.text.items ++ flat_map (absent_line l.names l.x) (range_with_len 0 l.v)
