use Rattle.std.proofs.Common.{◌≡◌, [], map, length}
use Rattle.std.specs.List.{range_with_len}
use Rattle.pg_tables.specs.Clause.{implies}
use Rattle.pg_tables.proofs.one_value.SomeValueRows.offer_at.Given as goal

abbrev pub invariant-loop-v : goal.invariant-loop-v
invariant-loop-v g l = (length l.clause ≡ l.v) × (l.clause ≡ implies [] (map (g.A.HasValues.atom_for l.self.0 l.i) (range_with_len 0 l.v)))
