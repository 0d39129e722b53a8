use Rattle.std.proofs.Common.{◌≡◌, ◌++◌}
use Rattle.std.specs.List.{flat_map, range_with_len}
use Rattle.pg_assertion.specs.declared.atom.ViewAtom.TheVariants.{Scalar}
use Rattle.pg_report.specs.Fresh.{true_line}
use Rattle.pg_report.proofs.fresh.append_scalars.Given as goal

abbrev pub invariant-scalars : goal.invariant-scalars
invariant-scalars l = l.text.items ≡ l.initial.text.items ++ flat_map (λ r. true_line l.names (Scalar r 0)) (range_with_len 0 l.r)
