use Rattle.std.proofs.Common.{◌≡◌, ◌-◌, ◌*◌, ◌≤◌, length}
use Rattle.std.specs.List.{flat_map, range_with_len}
use Rattle.pg_obligations.specs.Obligations.{of_point}
use Rattle.pg_obligations.proofs.count.of_thread.Given as goal

abbrev pub invariant-loop-k : goal.invariant-loop-k
invariant-loop-k l = (l.count ≡ length (flat_map (of_point l.p l.t) (range_with_len 1 (l.k - 1)))) × (l.count ≤ 260 * (l.k - 1))
