use Rattle.std.proofs.Common.{◌≡◌, ◌++◌}
use Rattle.std.specs.List.{flat_map, range_with_len}
use Rattle.pg_report.specs.Fresh.{absent_lines_of}
use Rattle.pg_report.proofs.fresh.append_absent.Given as goal

abbrev pub invariant-locations : goal.invariant-locations
invariant-locations l = l.text.items ≡ l.initial.text.items ++ flat_map (absent_lines_of l.p.names) (range_with_len 0 l.x)
