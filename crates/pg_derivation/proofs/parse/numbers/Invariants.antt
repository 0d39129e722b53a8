use Rattle.std.proofs.Common.{◌≡◌, ◌-◌, ◌+◌, ◌≤◌, length}
use Rattle.std.specs.List.{AllByRecursion}
use Rattle.pg_derivation.specs.Derivation.{IsNumber}
use Rattle.pg_derivation.specs.Fault.{numbers}
use Rattle.pg_derivation.specs.Place.{cursor}
use Rattle.pg_derivation.specs.Read.{with_front}
use Rattle.pg_derivation.proofs.parse.numbers.Given as goal

abbrev pub invariant-words : goal.invariant-words
invariant-words l = record {
  said : with_front l.into.items (numbers (l.turns - l.counter) (cursor l.place)) ≡ with_front l.initial.into.items (numbers l.turns (cursor l.from));
  moves : length l.into.items + l.from.at ≤ length l.initial.into.items + l.place.at;
  longer : length l.initial.into.items ≤ length l.into.items;
  fits : AllByRecursion IsNumber l.initial.into.items → AllByRecursion IsNumber l.into.items;
}
