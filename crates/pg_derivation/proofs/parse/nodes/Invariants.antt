use Rattle.std.proofs.Common.{◌≡◌, ◌-◌, ◌+◌, ◌≤◌, length}
use Rattle.pg_derivation.specs.Fault.{nodes}
use Rattle.pg_derivation.specs.Kept.{nodes_in, IsKept}
use Rattle.pg_derivation.specs.Place.{cursor}
use Rattle.pg_derivation.specs.Read.{with_front}
use Rattle.pg_derivation.proofs.parse.nodes.Given as goal

abbrev pub invariant-lines : goal.invariant-lines
invariant-lines l = record {
  said : with_front (nodes_in l.kept.items l.into.items) (nodes (l.turns - l.counter) (cursor l.place)) ≡ with_front (nodes_in l.initial.kept.items l.initial.into.items) (nodes l.turns (cursor l.from));
  moves : length l.into.items + l.from.at ≤ length l.initial.into.items + l.place.at;
  few : length l.kept.items ≤ l.place.at;
  longer : length l.initial.into.items ≤ length l.into.items;
  whole : IsKept l.kept.items l.into.items;
}
