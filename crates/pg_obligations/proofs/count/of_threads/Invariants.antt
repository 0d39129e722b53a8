use Rattle.std.proofs.Common.{◌≡◌, ◌-◌, ◌*◌, ◌≤◌, length}
use Rattle.std.specs.List.{flat_map, range_with_len}
use Rattle.pg_obligations.specs.Obligations.{of_thread}
use Rattle.pg_obligations.proofs.count.of_threads.Given as goal

abbrev pub invariant-loop-t : goal.invariant-loop-t
invariant-loop-t l = (l.count ≡ length (flat_map (of_thread l.p) (range_with_len 1 (l.t - 1)))) × (l.count ≤ 8320 * (l.t - 1))
