use Rattle.std.proofs.Common.{◌≡◌, ◌++◌}
use Rattle.std.specs.List.{flat_map, range_with_len}
use Rattle.pg_assertion.specs.declared.atom.ViewAtom.TheVariants.{Newest}
use Rattle.pg_report.specs.Fresh.{true_line}
use Rattle.pg_report.proofs.fresh.append_newest_of.Given as goal

abbrev pub invariant-locations : goal.invariant-locations
invariant-locations l = l.text.items ≡ l.initial.text.items ++ flat_map (λ x. true_line l.names (Newest l.t x)) (range_with_len 0 l.x)
