-- What was read so far stands in the vector, within the limit, and was counted.
use Rattle.std.proofs.Common.{◌≤◌, ◌-◌, length}
use Rattle.std.specs.Io.KnownBytes.{Consumes}
use Rattle.pg_io.specs.Counts.{RoseBy}
use Rattle.pg_io.proofs.real.read_within.Given as goal

abbrev pub invariant-loop-count : goal.invariant-loop-count
invariant-loop-count g l = record {
  within : length l.into.items ≤ l.limit;
  consumed : Consumes (g.F.Read.remaining l.initial.file) (g.F.Read.remaining l.file) l.into.items;
  stays : l.initial.taken ≤ l.taken;
  counted : RoseBy (length l.into.items) l.initial.taken l.taken;
}

abbrev pub decreases-loop-count : goal.decreases-loop-count
decreases-loop-count g l = l.limit - length l.into.items
