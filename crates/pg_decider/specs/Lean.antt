-- The way back over a trail, from a conflict to the clauses that it needs.
use Rattle.std.specs.Prelude.{◌≡◌, ℕ, ◌<◌, ◌≤◌, Bool, true, false, List, length, take, slice_index_or}
use Rattle.pg_region.specs.Literal.{Literal}
use Rattle.pg_decider.specs.Assignment.{Assignment, on, Within}
use Rattle.pg_decider.specs.Leaf.{stands_negated, IsLeaf}
use Rattle.pg_decider.specs.Trail.{TrailTable}
use Rattle.pg_decider.specs.Watch.{place, IsReason}

-- the literals of a trail from p on are units of their reasons
pub record AreUnits (cs : List (List Literal)) (t : TrailTable) (p : ℕ) : Type 0 where
  pub each : (j : ℕ) → p ≤ j → j < length t.literals → IsReason cs t j

-- the list closes each set that has those literals of the trail before j whose negations the list names
pub record Leaning (cs : List (List Literal)) (t : List Literal) (j : ℕ) (ns : List ℕ) : Type 0 where
  pub serves : (s : Assignment) → Within s (on (take j t)) → ((l : Literal) → on (take j t) l ≡ true → stands_negated cs l ns ≡ true → s l ≡ true) → IsLeaf cs s ns

-- the marks say which literals stand negated in the clauses of the list
pub record AreMarks (cs : List (List Literal)) (marks : List Bool) (ns : List ℕ) : Type 0 where
  pub says : (l : Literal) → place l < length marks → slice_index_or marks (place l) false ≡ stands_negated cs l ns
