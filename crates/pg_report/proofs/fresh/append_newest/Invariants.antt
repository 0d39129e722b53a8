use Rattle.std.proofs.Common.{◌≡◌, ◌-◌, ◌++◌}
use Rattle.std.specs.List.{flat_map, range_with_len}
use Rattle.pg_report.specs.Fresh.{own_newest_lines}
use Rattle.pg_report.proofs.fresh.append_newest.Given as goal

abbrev pub invariant-threads : goal.invariant-threads
invariant-threads l = l.text.items ≡ l.initial.text.items ++ flat_map (own_newest_lines l.p.names) (range_with_len 1 (l.t - 1))
