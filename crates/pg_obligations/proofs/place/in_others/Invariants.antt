use Rattle.std.proofs.Common.{◌≡◌, ◌+◌, ◌-◌, length}
use Rattle.std.specs.List.{flat_map, range_with_len}
use Rattle.pg_obligations.specs.Obligations.{against}
use Rattle.pg_obligations.proofs.place.in_others.Given as goal

abbrev pub invariant-loop-u : goal.invariant-loop-u
invariant-loop-u l = l.place ≡ length (flat_map (against l.p l.step) (range_with_len 1 (l.u - 1))) + l.left
