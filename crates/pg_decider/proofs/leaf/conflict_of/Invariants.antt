use Rattle.std.proofs.Common.{◌≡◌, ℕ, ◌<◌}
use Rattle.pg_region.specs.Region.{clause_at}
use Rattle.pg_decider.specs.Assignment.{on, AreFalse}
use Rattle.pg_decider.proofs.leaf.conflict_of.Given as goal

abbrev pub invariant-clauses : goal.invariant-clauses
invariant-clauses l = (l.reader.clauses ≡ l.fn.reader.clauses) × ((i : ℕ) → i < l.k → AreFalse (on l.trail.literals) (clause_at l.fn.reader.clauses i) → ⊥)
