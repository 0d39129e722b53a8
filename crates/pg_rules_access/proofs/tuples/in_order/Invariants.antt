use Rattle.std.proofs.Common.{◌≡◌, ◌≤◌, length, take}
use Rattle.std.specs.List.{filter, range_with_len}
use Rattle.pg_program.specs.Words.{is_in}
use Rattle.pg_rules_access.proofs.tuples.in_order.Given as goal

abbrev pub invariant-loop-r : goal.invariant-loop-r
invariant-loop-r g l =
    (length l.names ≡ 16) × (l.count ≤ l.r) × (take l.count l.names ≡ filter (λ r. is_in r (g.T.Says.reads l.says)) (range_with_len 0 l.r))
