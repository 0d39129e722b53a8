use Rattle.std.proofs.Common.{◌≡◌, ◌-◌, ◌+◌, ◌<◌, ◌≤◌, ◌^◌, length}
use Rattle.pg_region.specs.Pieces.{pieces}
use Rattle.pg_derivation.specs.Fault.{trees}
use Rattle.pg_derivation.specs.Kept.{nodes_in, IsKept, Rise}
use Rattle.pg_derivation.specs.Place.{cursor}
use Rattle.pg_derivation.specs.Read.{with_front}
use Rattle.pg_derivation.proofs.parse.trees.Given as goal

abbrev pub invariant-trees : goal.invariant-trees
invariant-trees l = record {
  said : with_front (pieces (nodes_in l.kept.items l.into.items) 0 l.ends.items) (trees (l.turns - l.counter) (length l.ends.items + 1) (cursor l.place)) ≡ trees l.turns 1 (cursor l.from);
  moves : length l.into.items + length l.ends.items + l.from.at ≤ l.place.at;
  numbers : length l.kept.items ≤ l.place.at;
  few : length l.ends.items < 2 ^ 31;
  rise : Rise 0 l.ends.items (length l.into.items);
  whole : IsKept l.kept.items l.into.items;
}
