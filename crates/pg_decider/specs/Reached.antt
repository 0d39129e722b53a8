-- Sets between an assignment and its closure.
use Rattle.std.specs.Prelude.{◌≡◌, ℕ, ◌≤◌, true, List}
use Rattle.pg_region.specs.Literal.{Literal}
use Rattle.pg_region.specs.Region.{clause_at}
use Rattle.pg_decider.specs.Assignment.{Assignment, on, Within, IsClosed}

-- v contains s, and each closed set that contains s contains v
pub record Reached (cs : List (List Literal)) (s v : Assignment) : Type 0 where
  pub above : Within s v
  pub inside : (t : Assignment) → Within s t → IsClosed cs t → Within v t

-- no literal of the clauses has an atom above n
abbrev pub AreWithin : ℕ → List (List Literal) → Type 0
AreWithin n cs = (k : ℕ) (l : Literal) → on (clause_at cs k) l ≡ true → l.atom ≤ n
